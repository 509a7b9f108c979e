use Rattle.std.proofs.Common.{arith, ◌≡◌, ◌++◌}
use Rattle.dets_term.specs.Parts.{deepest}
use Rattle.dets_term.proofs.Chains.{deepest-append, AreTerms-append}
use Rattle.dets_term.proofs.term_list.TermList.append.Goals as goal

pub invariant_of-self-2 : goal.invariant_of-self-2
invariant_of-self-2 c =
    let both : c.max-levels.result ≡ deepest (c.self.inside.items.items ++ c.other.inside.items.items) =
    omega (arith, deepest-append c.self.inside.items.items c.other.inside.items.items, c.max-levels.ensures, c.self.invariant.0, c.other.invariant.0) in
    rw c.in_ok-append.ensures.items (both, AreTerms-append _ _ c.self.invariant.1 c.other.invariant.1)
