use Rattle.write_cache.proofs.LedgerLists.{heads_kept}
use Rattle.write_cache.proofs.laws.blocks_have_heads.Goals as goal

pub returns-clause-put : goal.returns-clause-put
returns-clause-put c = heads_kept
