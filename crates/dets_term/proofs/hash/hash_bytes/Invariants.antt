use Rattle.std.proofs.Common.{◌≡◌, drop}
use Rattle.term_model.specs.Hash.{hash_after, hash_of}
use Rattle.dets_term.proofs.hash.hash_bytes.Given as goal

-- the rest hashes on from here to the hash of the whole
abbrev pub invariant-loop-byte : goal.invariant-loop-byte
invariant-loop-byte l = hash_after l.hash (drop l.byte-index l.bytes) ≡ hash_of l.bytes
