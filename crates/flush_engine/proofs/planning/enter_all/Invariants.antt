-- The changes so far came into the book.
use Rattle.std.proofs.Common.{◌≡◌, ℕ, List, length, drop}
use Rattle.write_cache.specs.Waiting.{Waiting}
use Rattle.book_model.specs.declared.change.Change.{Change}
use Rattle.book_model.specs.Book.{Book}
use Rattle.flush_engine.specs.declared.book.Book.{Book as KeptBook}
use Rattle.flush_engine.specs.Coming.{Coming}
use Rattle.flush_engine.proofs.planning.enter_all.Given as goal

pub record Goes (changes rest : List Change) (units : List ℕ) (place : ℕ) (first now : KeptBook) : Type 0 where
  pub comes : (before : Waiting) (new mid : Book) → Coming before new mid changes units first
      → (next : Book) × Coming before new next rest (drop place units) now
  pub slots : length now.directory ≡ length first.directory

abbrev pub invariant-loop-change : goal.invariant-loop-change
invariant-loop-change l =
    (goal.iterator-loop-change).can_next l.change-iterator
    × ((goal.iterator-loop-change).is_finite l.change-iterator
    × Goes l.fn.changes l.change-iterator.rest.items l.fn.units l.place l.fn.book l.book)
