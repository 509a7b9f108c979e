use Rattle.std.proofs.Common.{◌≡◌, ◌++◌, flat_map}
use Rattle.text_model.specs.Printed.{quoted_character}
use Rattle.term_text.proofs.printing.print_quoted.Given as goal

-- the characters so far are printed
abbrev pub invariant-loop-character : goal.invariant-loop-character
invariant-loop-character l = l.out ≡ l.initial.out ++ flat_map quoted_character l.yielded
