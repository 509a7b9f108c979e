use Rattle.std.proofs.Common.{◌∙◌, ap}
use Rattle.run_model.specs.Command.{name_of}
use Rattle.dets_machine.proofs.Nodes.{name_of_other}
use Rattle.dets_machine.proofs.command.name_of.Goals as goal

pub returns-in_default : goal.returns-in_default
returns-in_default c = name_of_other c.node.result.now c.node.ensures.sound c.in_default.not-Atom ∙ ap name_of c.node.ensures.value
