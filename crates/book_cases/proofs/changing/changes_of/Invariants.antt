use Rattle.book_model.specs.Planning.{AreChanges}
use Rattle.flush_engine.specs.Meaning.{book_of}
use Rattle.book_cases.proofs.changing.changes_of.Given as goal

abbrev pub invariant-loop-touch : goal.invariant-loop-touch
invariant-loop-touch l = AreChanges (book_of l.book) l.changes
