use Rattle.host_model.proofs.Kept.{are_bytes-fit}
use Rattle.host_model.proofs.log.copy_of.Goals as goal

pub returns-clause-in_range : goal.returns-clause-in_range
returns-clause-in_range c = are_bytes-fit c.args.bytes.now c.type_inv.bytes
