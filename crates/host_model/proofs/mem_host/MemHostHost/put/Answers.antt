-- The piece was kept.
use Rattle.std.proofs.Common.{rules}
use Rattle.host_model.specs.contracts.mem_host.MemHost.{the_view}
use Rattle.host_model.proofs.Goes.{goes_by_put}
use Rattle.host_model.proofs.mem_host.MemHostHost.put.Goals as goal

pub returns-then-is_ok-clause-goes : goal.returns-then-is_ok-clause-goes
returns-then-is_ok-clause-goes c =
    goes_by_put c.args.self.now (the_view (record c.self.inside { log = c.put.new.self; next_call = c.next_number-self-inside.result })) c.args.bytes.now
    (search rules)
