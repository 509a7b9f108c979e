use Rattle.std.proofs.Common.{◌∙◌, arith}
use Rattle.std.proofs.lemmas.Bool.{both_ways, eq-eqb}
use Rattle.std.proofs.lemmas.Result.{on_ok_weaker}
use Rattle.repair_scan.proofs.Shown.{all_shut, all_read}
use Rattle.repair_scan.proofs.segment.read_segment.Goals as goal

pub returns-then-not-contains-clause-given : goal.returns-then-not-contains-clause-given
returns-then-not-contains-clause-given g c f told h segments l =
    all_shut f h c.args.segment segments l c.read_gates.new.gates (c.in_ok-read_gates.ensures.given f told) c.args.units.now
    (λ i inside opened. both_ways _ (c.if-not-contains.ensures.cases i 0 (omega arith) (omega arith)) (eq-eqb _ 165 opened))

pub returns-clause-given : goal.returns-clause-given
returns-clause-given g c =
    on_ok_weaker c.read_units.result
    (λ read f told h segments l. all_read f h c.args.segment segments l c.read_gates.new.gates (c.in_ok-read_gates.ensures.given f told)
    c.read_units.new.units (read f (c.in_ok-read_gates.ensures.rests.file ∙ told)))
    c.read_units.ensures.given
