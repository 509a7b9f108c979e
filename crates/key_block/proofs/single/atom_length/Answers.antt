use Rattle.std.proofs.Common.{arith}
use Rattle.key_block.proofs.Plain.{name_front}
use Rattle.key_block.proofs.single.atom_length.Goals as goal

pub returns-in-Ok : goal.returns-in-Ok
returns-in-Ok c =
    name_front c.args.rest.now c.in_ok-number.number.now c.in_ok-number.others.now c.in_ok-number.ensures.cases.0
    (λ i. let h = c.type_inv.rest i in omega arith) c.if-others-count.false c.in-Ok.ensures.cases.1
