use Rattle.std.proofs.Common.{length, ap, arith}
use Rattle.space_model.specs.Runs.{run}
use Rattle.buddy_space.proofs.Written.{taken_run, written_giving}
use Rattle.buddy_space.proofs.space.Space.give.Goals as goal

pub fill-requires : goal.fill-requires
fill-requires c =
    let is = taken_run c.self.inside.segments c.self.inside.marks.items c.self.inside.deferred.items c.self.inside.spare c.args.self.now
    (run c.args.unit c.args.exp) c.self.invariant.marked c.self.view_is c.requires in
    let ends = is.ends in
    let same = ap length c.deref_mut.ensures.value in
    record { exp = is.exp; ends = omega (arith, ends, same) }

pub invariant_of-self : goal.invariant_of-self
invariant_of-self c =
    let new = written_giving c.self.inside.marks c.self.inside.segments c.deref_mut.result.now c.fill.new.marks c.self.inside.deferred.items
    c.self.inside.spare c.args.self.now (run c.args.unit c.args.exp) c.self.invariant.marked c.self.view_is c.requires
    (record { same = c.deref_mut.ensures.value; long = c.deref_mut.ensures.len; kept = c.fill.auto.marks }) c.fill.ensures in
    record { marked = new.0; room = c.self.invariant.room }

pub returns : goal.returns
returns c =
    let new = written_giving c.self.inside.marks c.self.inside.segments c.deref_mut.result.now c.fill.new.marks c.self.inside.deferred.items
    c.self.inside.spare c.args.self.now (run c.args.unit c.args.exp) c.self.invariant.marked c.self.view_is c.requires
    (record { same = c.deref_mut.ensures.value; long = c.deref_mut.ensures.len; kept = c.fill.auto.marks }) c.fill.ensures in
    record { given = new.1; parted = new.0.parted }
