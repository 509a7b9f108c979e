use Rattle.std.proofs.Common.{◌≡◌}
use Rattle.buddy_space.proofs.tests.many_units_are_taken_in_order.Given as goal

abbrev pub invariant-loop : goal.invariant-loop
invariant-loop g l = l.space.segments ≡ l.counter
