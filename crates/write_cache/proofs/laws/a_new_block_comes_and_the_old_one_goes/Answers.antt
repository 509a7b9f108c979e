use Rattle.write_cache.proofs.Totals.{bytes_of-with_state}
use Rattle.write_cache.proofs.laws.a_new_block_comes_and_the_old_one_goes.Goals as goal

pub returns-clause-put : goal.returns-clause-put
returns-clause-put c = bytes_of-with_state
