use Rattle.text_nest.proofs.LastBits.{moved_bits}
use Rattle.text_nest.proofs.segments.LastBits.byte.Goals as goal

pub returns : goal.returns
returns c = moved_bits c.args.self.value c.args.self.count c.args.self.some c.args.self.few c.args.self.held
