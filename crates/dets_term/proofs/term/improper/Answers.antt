use Rattle.std.proofs.Common.{◌≡◌, sym, suc, arith}
use Rattle.std.proofs.lemmas.Result.{err_from_is_err_and}
use Rattle.term_model.specs.TermValue.{chain, parts_depth}
use Rattle.dets_term.specs.Parts.{parts_depth-improper}
use Rattle.dets_term.proofs.Limited.{limited_ok, built_ok, built_err}
use Rattle.dets_term.proofs.Chains.{IsBounded-improper}
use Rattle.dets_term.proofs.term.improper.Goals as goal

pub returns-in_err-level_above : goal.returns-in_err-level_above
returns-in_err-level_above c =
    let p = err_from_is_err_and c.from_residual.result c.from_residual.ensures.1 in
    let levels = parts_depth-improper c.args.parts c.args.tail.value c.requires.some c.requires.no_list in
    let depth : parts_depth (chain c.args.parts c.args.tail.value)
    ≡ c.max.result = omega (arith, c.levels.ensures.value, rw c.deref.ensures at c.depth.ensures.value, c.max.ensures) in
    rw (p.1, p.2, ← c.len.ensures) (built_err c.len.result c.max.result (chain c.args.parts c.args.tail.value) _ depth c.in_err-level_above.ensures)

pub invariant_of-result : goal.invariant_of-result
invariant_of-result c =
    let levels = parts_depth-improper c.args.parts c.args.tail.value c.requires.some c.requires.no_list in
    let depth : parts_depth (chain c.args.parts c.args.tail.value)
    ≡ c.max.result = omega (arith, c.levels.ensures.value, rw c.deref.ensures at c.depth.ensures.value, c.max.ensures) in
    let limits = limited_ok c.len.result (suc c.max.result) _ _ (sym c.in_ok-level_above.ensures) in
    let size = c.len.ensures in (
      record {
        shallow = omega (arith, limits.1);
        bounded = IsBounded-improper _ _ (omega (arith, limits.0)) c.requires.no_list c.levels.ensures.terms (rw c.deref.ensures at c.depth.ensures.term);
      },
      (c.requires.some, c.requires.no_list),
    )

pub returns : goal.returns
returns c =
    let levels = parts_depth-improper c.args.parts c.args.tail.value c.requires.some c.requires.no_list in
    let depth : parts_depth (chain c.args.parts c.args.tail.value)
    ≡ c.max.result = omega (arith, c.levels.ensures.value, rw c.deref.ensures at c.depth.ensures.value, c.max.ensures) in
    rw (← c.len.ensures) (built_ok c.len.result _ c.max.result (chain c.args.parts c.args.tail.value) depth c.in_ok-level_above.ensures)
