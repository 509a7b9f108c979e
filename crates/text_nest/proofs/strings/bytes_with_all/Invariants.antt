use Rattle.std.proofs.Common.{◌≡◌, ◌++◌, true, nat_lt}
use Rattle.text_model.specs.Characters.{each}
use Rattle.text_nest.proofs.strings.bytes_with_all.Given as goal

-- whether the characters so far are bytes, and then they are put behind the others
abbrev pub invariant-loop-character : goal.invariant-loop-character
invariant-loop-character l = record {
  tested : l.are_bytes ≡ each (λ c. nat_lt c 256) l.yielded;
  gathered : l.are_bytes ≡ true → l.bytes ≡ l.initial.bytes ++ l.yielded;
}
