use Rattle.std.proofs.Common.{length, ap, arith}
use Rattle.std.specs.Prelude.{vec_len, vec_capacity}
use Rattle.std.proofs.lemmas.Nat.{pow_pos}
use Rattle.space_model.specs.Runs.{run}
use Rattle.buddy_space.specs.SpaceState.{SpaceState}
use Rattle.buddy_space.proofs.Written.{taken_run, written_deferring, pushed}
use Rattle.buddy_space.proofs.space.Space.defer.Goals as goal

pub fill-requires-clause-ends : goal.fill-requires-clause-ends
fill-requires-clause-ends c =
    let ends = (taken_run c.self.inside.segments c.self.inside.marks.items c.self.inside.deferred.items c.self.inside.spare c.args.self.now
    (run c.args.unit c.args.exp) c.self.invariant.marked c.self.view_is c.requires.taken).ends in
    let same = ap length c.deref_mut.ensures.value in
    let some = pow_pos c.args.exp in
    omega (arith, ends, same, some)

pub invariant_of-self : goal.invariant_of-self
invariant_of-self c =
    let new = written_deferring c.self.inside.marks c.self.inside.segments c.deref_mut.result.now c.fill.new.marks c.self.inside.deferred.items
    c.self.inside.spare c.args.self.now (record { unit = c.args.unit; exp = c.args.exp }) c.self.invariant.marked c.self.view_is c.requires.taken
    (record { same = c.deref_mut.ensures.value; long = c.deref_mut.ensures.len; kept = c.fill.auto.marks }) c.fill.ensures in
    let room = c.self.invariant.room in
    let some = c.requires.spare in
    let spare = ap (λ (s : SpaceState). s.spare) c.self.view_is in
    let more = c.push.ensures.upper_bound in
    let large = c.push.ensures.capacity in
    rw (pushed c.push.result (vec_len c.self.inside.deferred) (vec_capacity c.self.inside.deferred) c.self.inside.spare c.self.inside.deferred.items
    c.push.new.self.items (record { unit = c.args.unit; exp = c.args.exp }) c.push.ensures.succeeds room (omega (arith, some, spare)) c.push.ensures.items)
    (record { marked = new.0; room = omega (arith, room, some, spare, more, large) })

pub returns : goal.returns
returns c =
    let new = written_deferring c.self.inside.marks c.self.inside.segments c.deref_mut.result.now c.fill.new.marks c.self.inside.deferred.items
    c.self.inside.spare c.args.self.now (record { unit = c.args.unit; exp = c.args.exp }) c.self.invariant.marked c.self.view_is c.requires.taken
    (record { same = c.deref_mut.ensures.value; long = c.deref_mut.ensures.len; kept = c.fill.auto.marks }) c.fill.ensures in
    let room = c.self.invariant.room in
    let some = c.requires.spare in
    let spare = ap (λ (s : SpaceState). s.spare) c.self.view_is in
    rw (pushed c.push.result (vec_len c.self.inside.deferred) (vec_capacity c.self.inside.deferred) c.self.inside.spare c.self.inside.deferred.items
    c.push.new.self.items (record { unit = c.args.unit; exp = c.args.exp }) c.push.ensures.succeeds room (omega (arith, some, spare)) c.push.ensures.items)
    (record { deferred = new.1; parted = new.0.parted })
