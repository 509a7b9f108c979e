use Rattle.std.proofs.Common.{◌≡◌, drop}
use Rattle.term_model.specs.Hash.{hash_after}
use Rattle.repair_scan.specs.KeyHash.{hash_behind}
use Rattle.repair_scan.proofs.candidate.hash_behind.Given as goal

-- the rest hashes on from here to the hash of the whole
abbrev pub invariant-loop-byte : goal.invariant-loop-byte
invariant-loop-byte l = hash_after l.hash (drop l.byte-index l.key) ≡ hash_behind l.key
