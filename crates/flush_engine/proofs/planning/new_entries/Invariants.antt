-- The entries of the changes so far were made.
use Rattle.std.proofs.Common.{◌≡◌, ◌++◌, ℕ, List, drop}
use Rattle.file_model.specs.declared.entry.Entry.{Entry}
use Rattle.book_model.specs.declared.change.Change.{Change}
use Rattle.flush_engine.specs.Coming.{new_entries}
use Rattle.flush_engine.proofs.planning.new_entries.Given as goal

pub record Goes (changes items : List Change) (units : List ℕ) (index place : ℕ) (entries : List Entry) : Type 0 where
  pub items_are : items ≡ changes
  pub place_is : place ≡ index
  pub made : entries ++ new_entries (drop index changes) (drop index units) ≡ new_entries changes units

abbrev pub invariant-loop-change : goal.invariant-loop-change
invariant-loop-change l = Goes l.changes l.change-items l.units l.change-index l.place l.entries.items
