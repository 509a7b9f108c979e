use Rattle.std.proofs.Common.{arith}
use Rattle.file_model.specs.Packing.{payload_has_bytes}
use Rattle.key_block.proofs.packing.pack.Goals as goal

pub returns-then-len-gt-MAX_PAYLOAD-clause-too_large : goal.returns-then-len-gt-MAX_PAYLOAD-clause-too_large
returns-then-len-gt-MAX_PAYLOAD-clause-too_large c = λ fault. omega (arith, payload_has_bytes c.args.objects.now)
