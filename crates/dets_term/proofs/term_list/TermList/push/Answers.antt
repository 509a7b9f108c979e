use Rattle.dets_term.specs.Parts.{deepest-push, AreTerms-push}
use Rattle.dets_term.proofs.term_list.TermList.push.Goals as goal

pub invariant_of-self-2 : goal.invariant_of-self-2
invariant_of-self-2 c =
    rw (c.in_ok-push.ensures.items, c.take_first_room.ensures)
    (cc (deepest-push c.self.inside.items.items c.args.item), AreTerms-push _ _ c.self.invariant.1 c.depth.ensures.term)
