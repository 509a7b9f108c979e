use Rattle.std.proofs.Common.{subst, sym}
use Rattle.book_model.specs.Planning.{AreChanges}
use Rattle.flush_engine.specs.Meaning.{book_of}
use Rattle.book_cases.proofs.Another.{are_more}
use Rattle.book_cases.proofs.changing.changes_of.Goals as goal

pub loop-touch-preserved : goal.loop-touch-preserved
loop-touch-preserved c =
    subst (AreChanges (book_of c.args.book.now)) (sym c.in_ok-push.ensures.ok)
    (are_more (book_of c.args.book.now) c.loop-touch.changes c.in_ok-change.change c.loop-touch.invariant c.in_ok-change.ensures
    (c.is_other.ensures c.if-not-is_other.false))
