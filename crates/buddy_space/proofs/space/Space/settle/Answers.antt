use Rattle.std.proofs.Common.{arith}
use Rattle.buddy_space.proofs.Written.{deferred_within, written_settling}
use Rattle.buddy_space.proofs.space.Space.settle.Goals as goal

pub release-requires : goal.release-requires
release-requires c =
    rw (c.deref_mut.ensures.value, c.deref.ensures.value)
    (deferred_within c.self.inside.segments c.self.inside.marks.items c.self.inside.deferred.items c.self.inside.spare c.self.invariant.marked)

pub invariant_of-self : goal.invariant_of-self
invariant_of-self c =
    let new = written_settling c.self.inside.marks c.self.inside.segments c.deref_mut.result.now c.release.new.marks
    c.self.inside.deferred.items c.self.inside.spare c.args.self.now c.self.invariant.marked c.self.view_is
    (record { same = c.deref_mut.ensures.value; long = c.deref_mut.ensures.len; kept = c.release.auto.marks }) (rw c.deref.ensures.value at c.release.ensures) in
    let room = c.self.invariant.room in
    rw c.clear.ensures.items (record { marked = new.0; room = omega (arith, room) })

pub returns : goal.returns
returns c =
    let new = written_settling c.self.inside.marks c.self.inside.segments c.deref_mut.result.now c.release.new.marks
    c.self.inside.deferred.items c.self.inside.spare c.args.self.now c.self.invariant.marked c.self.view_is
    (record { same = c.deref_mut.ensures.value; long = c.deref_mut.ensures.len; kept = c.release.auto.marks }) (rw c.deref.ensures.value at c.release.ensures) in
    rw c.clear.ensures.items (record { settled = new.1; parted = new.0.parted })
