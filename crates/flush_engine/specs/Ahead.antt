-- A space in which the changes of a command are placed, beside the book that serves them. This project's own.
use Rattle.std.specs.Prelude.{◌≡◌, ℕ, List, [], ◌∷◌, Some, None, Result, Ok, Err}
use Rattle.space_model.specs.Runs.{Run}
use Rattle.space_model.specs.Apart.{In, SameMembers}
use Rattle.write_cache.specs.Waiting.{Waiting, state_of}
use Rattle.buddy_space.specs.SpaceState.{SpaceState, held as space_held}
use Rattle.book_model.specs.declared.change.Change.{Change}
use Rattle.book_model.specs.Book.{Book, held as book_held}
use Rattle.book_model.specs.Planning.{stands_for}
use Rattle.flush_engine.specs.Placing.{Places}

-- A space in which the changes of a command are placed up to here, where the book is this one: the same runs are held. Those
-- of blocks that stand in the file are not deferred yet.
pub record IsAhead (b : Book) (s : SpaceState) : Type 0 where
  pub segments : s.segments ≡ b.space.segments
  pub held : SameMembers (space_held s) (book_held b.space)
  -- what is deferred is so in the book too
  pub deferred : (r : Run) → In r s.deferred → In r b.space.deferred

-- the key of a change waits behind it with its new block from this unit on, and with unit 0 where it has none
pub record HasUnit (before after : Waiting) (c : Change) (unit : ℕ) : Type 0 where
  pub state : state_of after c.key ≡ Some (record { block = c.next; unit = unit; hash = c.hash; old = stands_for (state_of before c.key) c.old })
  pub none : c.next ≡ None → unit ≡ 0

-- each at its place
abbrev pub HaveUnits : Waiting → Waiting → List Change → List ℕ → Type 0
HaveUnits before after [] [] = Unit {0}
HaveUnits before after [] (u ∷ us) = ⊥
HaveUnits before after (c ∷ cs) [] = ⊥
HaveUnits before after (c ∷ cs) (u ∷ us) = HasUnit before after c u × HaveUnits before after cs us

-- the places of the changes of a command are those that the book gives them, or both are full for the same exponent
abbrev pub Matches : List Change → Waiting → Result Places ℕ → Result Book ℕ → Type 0
Matches changes before (Ok p) (Ok new) = IsAhead new p.space × HaveUnits before new.cache changes p.units
Matches changes before (Ok p) (Err y) = ⊥
Matches changes before (Err x) (Ok new) = ⊥
Matches changes before (Err x) (Err y) = x ≡ y
