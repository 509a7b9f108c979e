use Rattle.host_model.specs.Torn.{outside_ranges}
use Rattle.host_model.proofs.laws.a_part_outside_the_ranges_is_as_it_was.Goals as goal

pub returns : goal.returns
returns c = outside_ranges
