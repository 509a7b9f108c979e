-- The changes of a command, placed one behind the other, and how far that has come. This project's own.
use Rattle.std.specs.Prelude.{◌≡◌, ◌≤◌, ℕ, List, [], ◌∷◌, ◌++◌, IfSome, Some, Result, Ok}
use Rattle.space_model.specs.Apart.{In, Pairs}
use Rattle.file_model.specs.declared.entry.Entry.{Entry}
use Rattle.write_cache.specs.Waiting.{Waiting, state_of}
use Rattle.buddy_space.specs.SpaceState.{SpaceState, most_segments, largest_exp, IsParted}
use Rattle.book_model.specs.declared.change.Change.{Change}
use Rattle.book_model.specs.Book.{entry_run}
use Rattle.flush_engine.specs.Placing.{in_segments, block_of, Placing, placed}

-- What may be placed in a space, in order: the run of each pending block is taken, each begins elsewhere, and the new blocks
-- fit a segment.
pub record MayBePlaced (w : Waiting) (s : SpaceState) (changes : List Change) : Type 0 where
  pub blocks : (c : Change) → In c changes → IfSome (block_of (state_of w c.key)) (λ e. In (entry_run e) s.taken)
  pub exps : (c : Change) → In c changes → IfSome c.next (λ p. p.exp ≤ largest_exp)
  pub others : Pairs (λ (c d : Change). (e f : Entry) → block_of (state_of w c.key) ≡ Some e → block_of (state_of w d.key) ≡ Some f → f.unit ≡ e.unit → ⊥) changes

-- a change that was placed: the first unit of its new block, and the space before
pub record Step : Type 0 where
  pub change : Change
  pub unit : ℕ
  pub before : SpaceState

-- the changes and the units of steps, the last of which comes first
abbrev pub changes_of : List Step → List Change
changes_of [] = []
changes_of (step ∷ steps) = changes_of steps ++ step.change ∷ []

abbrev pub units_of : List Step → List ℕ
units_of [] = []
units_of (step ∷ steps) = units_of steps ++ step.unit ∷ []

abbrev pub at_unit : SpaceState → ℕ → Result Placing ℕ
at_unit s unit = Ok (record { space = s; unit = unit })

-- a step led to this space
pub record IsStep (most : ℕ) (w : Waiting) (step : Step) (now : SpaceState) : Type 0 where
  pub parted : IsParted step.before
  pub block : IfSome (block_of (state_of w step.change.key)) (λ e. In (entry_run e) step.before.taken)
  pub exp : IfSome step.change.next (λ p. p.exp ≤ largest_exp)
  pub so : placed most (state_of w step.change.key) step.before step.change.next ≡ at_unit now step.unit
  pub grows : step.before.segments ≤ now.segments

-- steps led from the first space to this one
abbrev pub Lead : ℕ → Waiting → List Step → (first now : SpaceState) → Type 0
Lead most w [] first now = now ≡ first
Lead most w (step ∷ steps) first now = IsStep most w step now × Lead most w steps first step.before

-- The first changes of a command were placed at these units, and led from the first space to this one, perhaps with more
-- segments since.
pub record IsLed (most : ℕ) (w : Waiting) (changes : List Change) (units : List ℕ) (first since : SpaceState) : Type 0 where
  pub steps : List Step
  pub then_was : SpaceState
  pub lead : Lead most w steps first then_was
  pub rest : List Change
  pub changes_are : changes_of steps ++ rest ≡ changes
  pub units_are : units_of steps ≡ units
  pub grown : then_was.segments ≤ since.segments
  pub fits : since.segments ≤ most_segments
  pub since_is : since ≡ in_segments since.segments then_was
