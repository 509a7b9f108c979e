use Rattle.std.proofs.Common.{◌≡◌, take}
use Rattle.dets_term.proofs.+copy.Given as goal

-- the terms so far are copied
abbrev pub invariant-term_list::TermList::copy-loop-item :
    goal.invariant-term_list::TermList::copy-loop-item
invariant-term_list::TermList::copy-loop-item l = l.made ≡ take l.item-index l.item-items

abbrev pub invariant-pair_list::PairList::copy-loop-item :
    goal.invariant-pair_list::PairList::copy-loop-item
invariant-pair_list::PairList::copy-loop-item l = l.made ≡ take l.item-index l.item-items
