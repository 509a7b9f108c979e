use Rattle.std.proofs.Common.{true}
use Rattle.std.specs.Prelude.{codes}
use Rattle.text_model.proofs.Answering.{answer_is}
use Rattle.text_model.proofs.rows.an_input_ends_behind_a_full_stop.Goals as goal

pub returns : goal.returns
returns c = answer_is true (codes "'a")
