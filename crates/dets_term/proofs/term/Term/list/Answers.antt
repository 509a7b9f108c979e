use Rattle.std.proofs.Common.{sym, ap, length, suc}
use Rattle.std.proofs.lemmas.Result.{err_from_is_err_and}
use Rattle.term_model.specs.TermValue.{chain, nil}
use Rattle.dets_term.specs.Parts.{deepest, parts_depth-chain, IsBounded-chain}
use Rattle.dets_term.proofs.Limited.{limited_ok, built_ok, built_err}
use Rattle.dets_term.proofs.term.Term.list.Goals as goal

pub returns-in_err-levels_above : goal.returns-in_err-levels_above
returns-in_err-levels_above c =
    let p = err_from_is_err_and c.from_residual.result c.from_residual.ensures.1 in
    rw (p.1, p.2) (built_err (length c.args.parts) (deepest c.args.parts) (chain c.args.parts nil) _ (parts_depth-chain c.args.parts)
    c.in_err-levels_above.ensures.levels)

pub invariant_of-result : goal.invariant_of-result
invariant_of-result c =
    let limits = limited_ok (length c.args.parts) (suc (deepest c.args.parts)) _ _ (sym c.in_ok-levels_above.ensures.levels) in
    let levels = ap suc (parts_depth-chain c.args.parts) in
    rw c.shrink_to_fit.ensures (record { shallow = rw levels limits.1; bounded = IsBounded-chain c.args.parts limits.0 c.in_ok-levels_above.ensures.terms }, tt)

pub returns : goal.returns
returns c = rw c.shrink_to_fit.ensures (built_ok (length c.args.parts) _ (deepest c.args.parts) (chain c.args.parts nil) (parts_depth-chain c.args.parts)
    c.in_ok-levels_above.ensures.levels)
