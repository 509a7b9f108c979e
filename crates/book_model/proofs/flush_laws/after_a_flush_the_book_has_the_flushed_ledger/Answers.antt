use Rattle.book_model.proofs.FileLedger.{flushed_has, nothing_has}
use Rattle.book_model.proofs.flush_laws.after_a_flush_the_book_has_the_flushed_ledger.Goals as goal

pub returns-clause-written : goal.returns-clause-written
returns-clause-written c = flushed_has c.blocks_below.ensures c.new_blocks_below.ensures c.writes_below.ensures

pub returns-clause-nothing : goal.returns-clause-nothing
returns-clause-nothing c = nothing_has
