use Rattle.std.proofs.Common.{◌∙◌, ap, sym}
use Rattle.run_model.specs.InMemory.{command_of}
use Rattle.dets_machine.proofs.Nodes.{operation-of_three_parts}
use Rattle.dets_machine.proofs.command.command_of.Goals as goal

pub returns-clause-built : goal.returns-clause-built
returns-clause-built c =
    c.operation.ensures.built
    ∙ operation-of_three_parts c.in_ok-client.client.now c.in_ok-client.op.now c.in_ok-client.argument.now _ _ c.in_ok-name_of.ensures c.in_ok-name_of-2.ensures
    ∙ ap command_of (sym c.in_ok-client.ensures.parts)
