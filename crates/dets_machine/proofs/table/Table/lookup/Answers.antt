use Rattle.std.proofs.Common.{◌≡◌, ◌≤◌, filter, length, ap, ◌∙◌, sym, take, arith}
use Rattle.std.proofs.lemmas.Grind.{common_steps}
use Rattle.table_model.specs.Table.{has_key}
use Rattle.dets_term.specs.Parts.{deepest}
use Rattle.dets_term.specs.Sorting.{ascending-few}
use Rattle.dets_machine.proofs.Kept.{deepest-filter, deepest-take}
use Rattle.dets_machine.proofs.table.Table.lookup.Goals as goal

pub returns-clause-found : goal.returns-clause-found
returns-clause-found c =
    let found : c.loop-object.found ≡ filter (has_key 1 c.args.key.now) c.args.self.now = grind (arith, common_steps) in
    let few : length (filter (has_key 1 c.args.key.now) c.args.self.now) ≤ 1 = rw (← c.self.view_is) (c.self.invariant.one_of_a_key c.args.key.now) in
    found ∙ sym (ascending-few (filter (has_key 1 c.args.key.now) c.args.self.now) few)

pub returns-clause-shallow : goal.returns-clause-shallow
returns-clause-shallow c =
    let found = ap deepest c.loop-object.invariant in
    let kept = deepest-filter (has_key 1 c.args.key.now) (take c.loop-object.object-index c.deref-object-items.result.now) in
    let front = deepest-take c.loop-object.object-index c.deref-object-items.result.now in
    let objects = ap deepest c.deref-object-items.ensures.value in
    let low = c.self.invariant.shallow in
    omega arith
