use Rattle.std.proofs.Common.{arith, subst, ap, length, true, ◌≡◌, ℕ, List}
use Rattle.std.specs.Str.{all_scalars, chars}
use Rattle.dets_term.proofs.Texts.{all_scalars-chars}
use Rattle.dets_term.proofs.term.Term.atom_of.Goals as goal

pub invariant_of-result : goal.invariant_of-result
invariant_of-result c =
    let scalars = subst (λ (cs : List ℕ). all_scalars cs ≡ true) c.as_str.ensures (all_scalars-chars c.as_str.result.now c.as_str.utf8) in
    let same : length (chars c.as_str.result.now) ≡ length c.args.name = ap length c.as_str.ensures in
    (record { shallow = omega arith; bounded = (omega arith, scalars) }, tt)
