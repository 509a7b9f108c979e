-- What is left of the steps led to the space, which has as many segments as before.
use Rattle.std.proofs.Common.{◌≡◌, ◌≤◌, ℕ, List, length, take}
use Rattle.write_cache.specs.Waiting.{Waiting}
use Rattle.buddy_space.specs.SpaceState.{SpaceState}
use Rattle.book_model.specs.declared.change.Change.{Change}
use Rattle.flush_engine.specs.Steps.{IsLed}
use Rattle.flush_engine.proofs.all.take_all_back.Given as goal

pub record GoesBack (w : Waiting) (changes : List Change) (units : List ℕ) (left : ℕ) (start now : SpaceState) : Type 0 where
  pub inside : left ≤ length units
  pub segments : now.segments ≡ start.segments
  pub led : (most : ℕ) (first : SpaceState) → IsLed most w changes units first start → IsLed most w changes (take left units) first now

abbrev pub invariant-loop-left : goal.invariant-loop-left
invariant-loop-left l = GoesBack l.cache l.changes l.units l.left l.initial.space l.space

abbrev pub decreases-loop-left : goal.decreases-loop-left
decreases-loop-left l = l.left
