use Rattle.std.proofs.Common.{◌≡◌, ◌++◌, drop, map}
use Rattle.etf_model.specs.Canonical.{byte_value}
use Rattle.etf_codec.proofs.encoding.encode_string.Given as goal

-- what is written, and what is left from this index on, are all bytes
abbrev pub invariant-loop-index : goal.invariant-loop-index
invariant-loop-index l = l.out ++ map byte_value (drop l.index l.parts) ≡ l.initial.out ++ map byte_value l.parts
