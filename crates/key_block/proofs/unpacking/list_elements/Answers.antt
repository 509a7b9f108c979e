use Rattle.std.proofs.Common.{◌∙◌, ap, sym}
use Rattle.key_block.proofs.Elements.{elements_of, list_node, other_node, few_elements}
use Rattle.key_block.proofs.unpacking.list_elements.Goals as goal

pub returns-in-List-clause-elements : goal.returns-in-List-clause-elements
returns-in-List-clause-elements c = sym (ap elements_of (sym c.in-List.ensures.value) ∙ list_node c.in-List.parts)

pub returns-in-List-clause-few : goal.returns-in-List-clause-few
returns-in-List-clause-few c = few_elements c.args.term c.in-List.parts c.depth-levels.ensures.term c.in-List.ensures.value

pub returns-clause-elements : goal.returns-clause-elements
returns-clause-elements c = sym (ap elements_of (sym c.into_node.ensures.value) ∙ other_node c.into_node.result c.into_node.ensures.sound c.in_default.not-List)
