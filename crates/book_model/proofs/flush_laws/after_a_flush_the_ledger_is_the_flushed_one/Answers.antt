use Rattle.book_model.proofs.FlushedLedger.{stands_now, rest_same}
use Rattle.book_model.proofs.flush_laws.after_a_flush_the_ledger_is_the_flushed_one.Goals as goal

pub returns-clause-standing : goal.returns-clause-standing
returns-clause-standing c = stands_now c.blocks_below.ensures c.new_blocks_below.ensures c.writes_below.ensures

pub returns-clause-rest : goal.returns-clause-rest
returns-clause-rest c = rest_same
