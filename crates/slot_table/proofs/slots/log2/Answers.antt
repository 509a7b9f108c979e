use Rattle.std.proofs.Common.{arith}
use Rattle.space_model.specs.Least.{log2}
use Rattle.slot_table.proofs.Powers.{exponent_from_zeros}
use Rattle.slot_table.proofs.slots.log2.Goals as goal

pub returns-clause-value : goal.returns-clause-value
returns-clause-value c =
    exponent_from_zeros c.args.number (log2 c.args.number) c.requires (omega arith)
    (c.the_exponent_of_the_greatest_power_of_two.ensures.at_most c.args.number c.requires)
    (c.the_exponent_of_the_greatest_power_of_two.ensures.greatest c.args.number)
