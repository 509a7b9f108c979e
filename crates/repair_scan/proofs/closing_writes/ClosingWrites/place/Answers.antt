use Rattle.std.proofs.Common.{Some, ap, sym, ◌∙◌}
use Rattle.repair_scan.proofs.Closed.{place_of_write, write_there}
use Rattle.repair_scan.proofs.closing_writes.ClosingWrites.place.Goals as goal

pub returns-in-Some : goal.returns-in-Some
returns-in-Some c =
    place_of_write c.args.self.now.rejects.now c.args.i c.in-Some.reject.now (sym c.in-Some.ensures) ∙ ap (λ at. Some at) (sym c.gate_at.ensures)

pub returns-in-None : goal.returns-in-None
returns-in-None c =
    let found = write_there c.args.self.now.rejects.now c.args.i c.requires in
    absurd (cc (c.in-None.ensures, found.1))
