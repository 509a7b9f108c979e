use Rattle.std.proofs.Common.{Some, ap, sym, ◌∙◌}
use Rattle.repair_scan.proofs.Closed.{bytes_of_write}
use Rattle.repair_scan.proofs.closing_writes.ClosingWrites.bytes.Goals as goal

pub returns : goal.returns
returns c = bytes_of_write c.args.self.now.rejects.now c.args._i c.requires ∙ ap (λ bytes. Some bytes) (sym c.args.self.now.closed)
