use Rattle.std.proofs.Common.{◌≡◌, map, pos, take}
use Rattle.dets_term.specs.TermValue.{integer}
use Rattle.etf_codec.proofs.strings.list_of_bytes.Given as goal

-- the elements so far are the bytes so far
abbrev pub invariant-loop-byte : goal.invariant-loop-byte
invariant-loop-byte l = l.parts ≡ map (λ x. integer (pos x)) (take l.byte-index l.bytes)
