-- Integers that are handed on.
use Rattle.std.proofs.Common.{◌≡◌, ℤ, ap, ◌∙◌}
use Rattle.std.proofs.lemmas.Int.{to_z-of_z}
use mir.Syntax.{w128}
use mir.Val.{to_z, of_z, SFits}
use Rattle.dets_term.specs.TermValue.{TermValue, integer}

-- a number of 128 bits is itself again where it is handed on
pub int_value : (t : TermValue) (z y : ℤ) → SFits w128 z → t ≡ integer (to_z w128 (of_z w128 z)) → z ≡ y → t ≡ integer y
int_value t z y fits e same = e ∙ ap integer (to_z-of_z w128 z fits ∙ same)
