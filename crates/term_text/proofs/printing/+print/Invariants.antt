use Rattle.std.proofs.Common.{◌≡◌, ◌+◌, ◌*◌, ◌++◌, ◌∷◌, []}
use Rattle.std.specs.List.{join_by}
use Rattle.dets_term.specs.TermValue.{nil, chain, depth}
use Rattle.dets_term.specs.Parts.{deepest, deepest_of_pairs}
use Rattle.text_model.specs.Printed.{printed_elements}
use Rattle.term_text.proofs.Elements.{left_from, printed_entry}
use Rattle.term_text.proofs.Joined.{left_of}
use Rattle.term_text.proofs.printing.+print.Given as goal

abbrev pub decreases-print_elements : goal.decreases-print_elements
decreases-print_elements l = 2 * deepest l.parts.now + 1

abbrev pub decreases-print_map : goal.decreases-print_map
decreases-print_map l = 2 * deepest_of_pairs l.pairs.now + 1

abbrev pub decreases-print_term : goal.decreases-print_term
decreases-print_term l = 2 * depth l.term.now

-- what is printed, and what is left from this place on, are all elements
abbrev pub invariant-print_elements-loop-place : goal.invariant-print_elements-loop-place
invariant-print_elements-loop-place l =
    l.out ++ left_from (l.closing ∷ []) l.place l.parts ≡ l.initial.out ++ printed_elements (l.closing ∷ []) (chain l.parts nil)

abbrev pub invariant-print_map-loop-place : goal.invariant-print_map-loop-place
invariant-print_map-loop-place l = l.out ++ left_of printed_entry l.place l.pairs ≡ l.initial.out ++ join_by printed_entry (44 ∷ []) l.pairs
