use Rattle.std.proofs.Common.{◌≡◌, take}
use Rattle.etf_codec.proofs.atoms.latin_1_atom.Given as goal

-- the characters so far are the bytes so far
abbrev pub invariant-loop-byte : goal.invariant-loop-byte
invariant-loop-byte l = l.text ≡ take l.byte-index l.bytes
