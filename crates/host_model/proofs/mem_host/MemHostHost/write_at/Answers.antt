-- The write was kept.
use Rattle.std.proofs.Common.{rules}
use Rattle.host_model.specs.contracts.mem_host.MemHost.{the_view}
use Rattle.host_model.proofs.Kept.{are_bytes-fit}
use Rattle.host_model.proofs.Goes.{goes_by_write}
use Rattle.host_model.proofs.mem_host.MemHostHost.write_at.Goals as goal

pub returns-then-is_ok-clause-goes : goal.returns-then-is_ok-clause-goes
returns-then-is_ok-clause-goes c =
    goes_by_write c.args.self.now (the_view (record c.self.inside { log = c.write.new.self; next_call = c.next_number-self-inside.result })) c.args.at
    c.args.bytes.now (are_bytes-fit c.args.bytes.now c.type_inv.bytes) c.requires (search rules)
