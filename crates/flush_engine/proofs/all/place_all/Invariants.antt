-- The changes so far were placed, and the others may be.
use Rattle.std.proofs.Common.{◌≡◌, ◌≤◌, ◌++◌, ℕ, List, drop}
use Rattle.write_cache.specs.Waiting.{Waiting}
use Rattle.buddy_space.specs.SpaceState.{SpaceState, IsParted}
use Rattle.book_model.specs.declared.change.Change.{Change}
use Rattle.flush_engine.specs.Steps.{MayBePlaced, Step, changes_of, units_of, Lead}
use Rattle.flush_engine.proofs.all.place_all.Given as goal

pub record Goes (most : ℕ) (w : Waiting) (changes : List Change) (first : SpaceState) (index : ℕ) (units : List ℕ) (now : SpaceState) : Type 0 where
  pub steps : List Step
  pub lead : Lead most w steps first now
  pub done : changes_of steps ++ drop index changes ≡ changes
  pub units_are : units_of steps ≡ units
  pub rest : MayBePlaced w now (drop index changes)
  pub parted : IsParted now
  pub fits : now.segments ≤ most

pub record GoesOn (most : ℕ) (w : Waiting) (changes items : List Change) (first : SpaceState) (index : ℕ) (units : List ℕ) (now : SpaceState) : Type 0 where
  pub items_are : items ≡ changes
  pub goes : Goes most w changes first index units now

abbrev pub invariant-loop-change : goal.invariant-loop-change
invariant-loop-change l = GoesOn l.most l.cache l.changes l.change-items l.fn.space l.change-index l.units.items l.space
