use Rattle.std.proofs.Common.{true}
use Rattle.std.specs.Prelude.{codes}
use Rattle.text_model.proofs.Answering.{answer_is}
use Rattle.text_model.proofs.rows.a_key_stands_once_in_its_map.Goals as goal

pub returns-clause-map : goal.returns-clause-map
returns-clause-map c = answer_is true (codes "#{a=>1,a=>2}.")

pub returns-clause-key : goal.returns-clause-key
returns-clause-key c = answer_is true (codes "#{a=>1,a")
