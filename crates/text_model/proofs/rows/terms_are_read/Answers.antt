use Rattle.std.proofs.Common.{true}
use Rattle.std.specs.Prelude.{codes}
use Rattle.text_model.proofs.Answering.{answer_is}
use Rattle.text_model.proofs.rows.terms_are_read.Goals as goal

pub returns-clause-one : goal.returns-clause-one
returns-clause-one c = answer_is true (codes "{k,1}. b")

pub returns-clause-joined : goal.returns-clause-joined
returns-clause-joined c = answer_is true (codes "[a|[b]].")

pub returns-clause-comment : goal.returns-clause-comment
returns-clause-comment c = answer_is true (codes "%c\na%d\n.%")

pub returns-clause-octal : goal.returns-clause-octal
returns-clause-octal c = answer_is true (codes "\"\\1018\".")

pub returns-clause-binary : goal.returns-clause-binary
returns-clause-binary c = answer_is true (codes "<<1,\"a\",5:3>>.")
