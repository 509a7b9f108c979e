use Rattle.write_cache.proofs.LedgerLists.{bytes-ledger_of, limit-ledger_of}
use Rattle.write_cache.proofs.laws.keys_and_bytes_tell_the_limit.Goals as goal

pub returns-clause-bytes : goal.returns-clause-bytes
returns-clause-bytes c = bytes-ledger_of

pub returns-clause-limit : goal.returns-clause-limit
returns-clause-limit c = limit-ledger_of
