use Rattle.std.proofs.Common.{arith}
use Rattle.key_block.proofs.Plain.{wide_front}
use Rattle.key_block.proofs.single.integer_length.Goals as goal

pub returns : goal.returns
returns c =
    wide_front c.args.rest.now _ _ c.from_be_bytes.result c.in_ok-number.ensures.cases (λ i. let h = c.type_inv.rest i in omega arith) c.from_be_bytes.ensures
    c.if-from_be_bytes-le255.false c.from_be_bytes.type_inv
