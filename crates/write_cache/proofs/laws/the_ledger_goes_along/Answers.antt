use Rattle.write_cache.proofs.LedgerLists.{ledger_of-with_state, pending_keys-ledger_of, apart-ledger_of, is_pending-ledger_of, packed_of-ledger_of}
use Rattle.write_cache.proofs.laws.the_ledger_goes_along.Goals as goal

pub returns-clause-put : goal.returns-clause-put
returns-clause-put c = ledger_of-with_state

pub returns-clause-keys : goal.returns-clause-keys
returns-clause-keys c = pending_keys-ledger_of

pub returns-clause-apart : goal.returns-clause-apart
returns-clause-apart c = apart-ledger_of

pub returns-clause-there : goal.returns-clause-there
returns-clause-there c = is_pending-ledger_of

pub returns-clause-block : goal.returns-clause-block
returns-clause-block c = packed_of-ledger_of
