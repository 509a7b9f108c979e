-- Segments were added, and the place is still the one that is looked for.
use Rattle.std.proofs.Common.{◌≡◌, ◌≤◌, ◌-◌, ℕ}
use Rattle.buddy_space.specs.SpaceState.{SpaceState}
use Rattle.flush_engine.specs.Placing.{in_segments, place_in}
use Rattle.flush_engine.proofs.growing.take_growing.Given as goal

pub record Grows (most exp : ℕ) (first now : SpaceState) : Type 0 where
  pub least : first.segments ≤ now.segments
  pub inside : now.segments ≤ most
  pub space : now ≡ in_segments now.segments first
  pub place : place_in most now exp ≡ place_in most first exp

abbrev pub invariant-loop-unit : goal.invariant-loop-unit
invariant-loop-unit l = Grows l.most l.exp l.initial.space l.space

abbrev pub decreases-loop-unit : goal.decreases-loop-unit
decreases-loop-unit l = l.most - l.space.segments
