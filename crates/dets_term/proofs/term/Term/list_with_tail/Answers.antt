use Rattle.std.proofs.Common.{◌≡◌, false, Ok, sym, subst, ◌∙◌, ap, length, inr, refl}
use Rattle.term_model.specs.TermValue.{chain, nil, is_list}
use Rattle.term_model.specs.IsTerm.{IsTerm, built}
use Rattle.dets_term.specs.Parts.{elements-not_list}
use Rattle.dets_term.specs.Node.{shown, IsSound}
use Rattle.dets_term.proofs.Chains.{built-none, built-joined, built-ended}
use Rattle.dets_term.proofs.NodeKinds.{is_list_of_other}
use Rattle.dets_term.proofs.term.Term.list_with_tail.Goals as goal

pub returns-then-len-eq0 : goal.returns-then-len-eq0
returns-then-len-eq0 c =
    let term : IsTerm c.args.tail = subst IsTerm c.tail.view_is c.tail.invariant.0 in
    inr (ap Ok c.tail.view_is ∙ built-none c.args.parts c.args.tail (sym c.len.ensures ∙ c.if-len-eq0.true) term)

pub returns-in_ok-append-in-List : goal.returns-in_ok-append-in-List
returns-in_ok-append-in-List c =
    let tail : c.args.tail ≡ chain c.in-List.rest nil = sym c.tail.view_is ∙ ap shown c.in-List.is in
    inr (c.list.ensures ∙ built-joined c.args.parts c.in-List.rest _ nil nil c.args.tail c.in_ok-append-in-List.ensures.ok refl tail refl)

pub returns-in_ok-append-in-Improper : goal.returns-in_ok-append-in-Improper
returns-in_ok-append-in-Improper c =
    let tail : c.args.tail ≡ chain c.in-Improper.rest c.in-Improper.last.value = sym c.tail.view_is ∙ ap shown c.in-Improper.is in
    let sound = subst IsSound c.in-Improper.is c.tail.invariant.1 in
    let none = elements-not_list c.in-Improper.last.value sound.1 in
    inr (c.improper.ensures ∙ built-joined c.args.parts c.in-Improper.rest _ c.in-Improper.last.value _ c.args.tail
    c.in_ok-append-in-Improper.ensures.ok refl tail none)

pub returns-in_ok-last-in_default : goal.returns-in_ok-last-in_default
returns-in_ok-last-in_default c =
    let other : is_list (shown c.tail.inside.node) ≡ false = is_list_of_other c.tail.inside.node c.in_default.not-List c.in_default.not-Improper in
    let tail : is_list c.args.tail ≡ false = subst (λ t. is_list t ≡ false) c.tail.view_is other in
    let made : c.in_ok-last-in_default.last.value ≡ c.args.tail = c.in_ok-last-in_default.ensures ∙ c.tail.view_is in
    inr (c.improper-in_default.ensures ∙ ap (λ t. built (length c.args.parts) (chain c.args.parts t)) made ∙ built-ended c.args.parts c.args.tail tail)
