use Rattle.std.proofs.Common.{arith}
use Rattle.key_block.proofs.Plain.{whole_front}
use Rattle.key_block.proofs.single.binary_length.Goals as goal

pub returns : goal.returns
returns c =
    whole_front c.args.rest.now _ _ _ c.in_ok-number.ensures.cases (λ i. let h = c.type_inv.rest i in omega arith) c.from_be_bytes-count.ensures
    c.from_be_bytes-count.type_inv c.if-others-count.false
