use Rattle.std.proofs.Common.{sym, ap, ◌∙◌}
use Rattle.std.proofs.lemmas.Bool.{cond-false}
use Rattle.etf_model.specs.Canonical.{is_byte}
use Rattle.etf_codec.proofs.CanonicalParts.{is_byte-other}
use Rattle.etf_codec.proofs.encoding.byte_of.Goals as goal

pub returns-in_default : goal.returns-in_default
returns-in_default c =
    sym (cond-false _ _ _ (ap is_byte (sym c.node.ensures.value) ∙ is_byte-other c.node.result.now c.node.ensures.sound c.in_default.not-Int))
