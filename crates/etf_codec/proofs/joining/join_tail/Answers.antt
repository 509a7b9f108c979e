use Rattle.std.proofs.Common.{◌+◌, ◌≤◌, arith, sym, ap, ◌∙◌}
use Rattle.dets_term.specs.declared.TermFault.TheVariants.{Memory}
use Rattle.dets_term.specs.TermValue.{chain, depth}
use Rattle.etf_codec.specs.Machine.{resume}
use Rattle.dets_term.specs.Parts.{depth-list_of}
use Rattle.etf_codec.proofs.TermSteps.{built_list, IfErr-either, or_else}
use Rattle.etf_codec.proofs.JoinSteps.{list_fits, one_made_or}
use Rattle.etf_codec.proofs.joining.join_tail.Goals as goal

pub within_limits-requires : goal.within_limits-requires
within_limits-requires c =
    IfErr-either c.list_with_tail.result Memory (chain c.args.parts c.args.part)
    (or_else (λ e. e ∙ built_list c.args.parts c.args.part 255 (omega arith)
    (omega (arith, c.requires.frame.1)) c.requires.part.1 c.requires.frame.0 c.requires.part.0)
    c.list_with_tail.ensures)

pub returns-clause-joins : goal.returns-clause-joins
returns-clause-joins c begun position =
    let made = one_made_or c.list_with_tail.result Memory c.in_ok-list.list (chain c.args.parts c.args.part) c.in_ok-list.ensures.ok
    (or_else (λ e. e ∙ built_list c.args.parts c.args.part 255 (omega arith)
    (omega (arith, c.requires.frame.1)) c.requires.part.1 c.requires.frame.0 c.requires.part.0)
    c.list_with_tail.ensures) in
    ap (λ whole. resume begun c.args.start whole position) (sym made)

pub returns-clause-within : goal.returns-clause-within
returns-clause-within c levels l fits part =
    let made = one_made_or c.list_with_tail.result Memory c.in_ok-list.list (chain c.args.parts c.args.part) c.in_ok-list.ensures.ok
    (or_else (λ e. e ∙ built_list c.args.parts c.args.part 255 (omega arith)
    (omega (arith, c.requires.frame.1)) c.requires.part.1 c.requires.frame.0 c.requires.part.0)
    c.list_with_tail.ensures) in
    let shallow : depth c.in_ok-list.list ≤ levels + 1 = omega (arith, ap depth made, depth-list_of c.args.parts c.args.part levels fits.0 part.0) in
    (shallow, λ outer may. list_fits outer c.args.parts (levels + 1) c.in_ok-list.list shallow may)
