use Rattle.std.proofs.Common.{◌≡◌, drop}
use Rattle.std.specs.List.{list_all}
use Rattle.etf_model.specs.Canonical.{is_byte}
use Rattle.etf_codec.proofs.encoding.are_bytes.Given as goal

-- what is left decides
abbrev pub invariant-loop-index : goal.invariant-loop-index
invariant-loop-index l = list_all is_byte (drop l.index l.parts) ≡ list_all is_byte l.parts
