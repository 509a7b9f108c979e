use Rattle.std.proofs.Common.{refl, arith}
use Rattle.std.proofs.lemmas.Result.{err_from_is_err_and}
use Rattle.dets_term.proofs.Texts.{all_scalars-chars}
use Rattle.dets_term.proofs.term.Term.atom.Goals as goal

pub returns-then-char_count-gt-MAX_ATOM-clause-long : goal.returns-then-char_count-gt-MAX_ATOM-clause-long
returns-then-char_count-gt-MAX_ATOM-clause-long c = (λ _. omega arith, λ _. refl)

pub returns-in_err-name-clause-long : goal.returns-in_err-name-clause-long
returns-in_err-name-clause-long c =
    let p = err_from_is_err_and c.from_residual.result c.from_residual.ensures.1 in
    rw (p.1, p.2) (λ e. cc, λ h. absurd (omega arith))

pub invariant_of-result : goal.invariant_of-result
invariant_of-result c =
    (record { shallow = omega arith; bounded = rw c.in_ok-name.ensures (omega arith, all_scalars-chars c.args.text.now c.utf8.text) }, tt)

pub returns-clause-long : goal.returns-clause-long
returns-clause-long c = (λ e. cc, λ h. absurd (omega arith))
