use Rattle.key_block.proofs.Plain.{nil_front}
use Rattle.key_block.proofs.single.plain_length.Goals as goal

pub returns-in-106 : goal.returns-in-106
returns-in-106 c = nil_front c.args.bytes.now c.in_ok-tag.tag.now c.in_ok-tag.rest.now c.in_ok-tag.ensures.cases.0 c.in-106.is
