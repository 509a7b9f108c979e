use Rattle.std.proofs.Common.{◌<◌, length, arith}
use Rattle.key_block.proofs.Plain.{small_front}
use Rattle.key_block.proofs.single.small_length.Goals as goal

pub returns-in-len1-up : goal.returns-in-len1-up
returns-in-len1-up c = small_front c.args.rest.now (omega arith) (λ i. let h = c.type_inv.rest i in omega arith)
