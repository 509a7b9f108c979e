use Rattle.std.proofs.Common.{List, Option, Some, None, IfSome}
use Rattle.std.specs.Option.{option_copied}
use Rattle.space_model.specs.Runs.{Run}
use Rattle.space_model.specs.Apart.{In}
use Rattle.file_model.specs.declared.entry.Entry.{Entry}
use Rattle.book_model.specs.Book.{entry_run}
use Rattle.flush_engine.specs.Placing.{block_of}
use Rattle.flush_engine.proofs.placing.place_change.Goals as goal

-- a run that was taken still is
still-taken : (o : Option Entry) (old new : List Run) → ((r : Run) → In r old → In r new) → IfSome o (λ e. In (entry_run e) old)
    → IfSome o (λ e. In (entry_run e) new)
still-taken None old new kept i = tt
still-taken (Some e) old new kept i = kept (entry_run e) i

pub give_up-requires-2 : goal.give_up-requires-2
give_up-requires-2 c = still-taken (block_of (option_copied c.args.earlier)) c.args.space.now.taken _ c.take_growing.ensures.kept c.requires.pending

pub returns-in_err-unit-clause-others : goal.returns-in_err-unit-clause-others
returns-in_err-unit-clause-others c = λ r a other. c.take_growing.ensures.kept r a

pub returns-clause-others : goal.returns-clause-others
returns-clause-others c = λ r a other. c.give_up-2.ensures.others r (c.take_growing.ensures.kept r a) other
