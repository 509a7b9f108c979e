use Rattle.std.proofs.Common.{Some, None, length, ap, ◌∙◌, arith}
use Rattle.space_model.specs.Runs.{run}
use Rattle.buddy_space.proofs.Written.{found_place, found_run, written_taking}
use Rattle.buddy_space.proofs.space.Space.take.Goals as goal

pub returns-in_err-best-clause-place : goal.returns-in_err-best-clause-place
returns-in_err-best-clause-place c =
    c.from_residual.ensures ∙ found_place c.self.inside.segments c.self.inside.marks.items c.self.inside.deferred.items c.self.inside.spare c.args.self.now
    c.args.exp None c.self.invariant.marked c.self.view_is (rw c.deref.ensures.value at c.in_err-best.ensures)

pub mark_taken-requires-clause-ends : goal.mark_taken-requires-clause-ends
mark_taken-requires-clause-ends c =
    let found = found_run c.self.inside.segments c.self.inside.marks.items c.self.inside.deferred.items c.self.inside.spare
    c.args.exp c.in_ok-best.best c.self.invariant.marked (rw c.deref.ensures.value at c.in_ok-best.ensures) in
    let ends = found.0.ends in
    let same = ap length c.deref_mut.ensures.value in
    let whole = c.self.invariant.marked.whole in
    omega (arith, ends, same, whole)

pub invariant_of-self : goal.invariant_of-self
invariant_of-self c =
    let found = found_run c.self.inside.segments c.self.inside.marks.items c.self.inside.deferred.items c.self.inside.spare
    c.args.exp c.in_ok-best.best c.self.invariant.marked (rw c.deref.ensures.value at c.in_ok-best.ensures) in
    let new = written_taking c.self.inside.marks c.self.inside.segments c.deref_mut.result.now c.mark_taken.new.marks c.self.inside.deferred.items
    c.self.inside.spare c.args.self.now (run c.in_ok-best.best.unit c.args.exp) c.self.invariant.marked c.self.view_is found.0 found.1
    (record { same = c.deref_mut.ensures.value; long = c.deref_mut.ensures.len; kept = c.mark_taken.auto.marks }) c.mark_taken.ensures in
    record { marked = new.0; room = c.self.invariant.room }

pub returns : goal.returns
returns c =
    let best = rw c.deref.ensures.value at c.in_ok-best.ensures in
    let found = found_run c.self.inside.segments c.self.inside.marks.items c.self.inside.deferred.items c.self.inside.spare
    c.args.exp c.in_ok-best.best c.self.invariant.marked best in
    let new = written_taking c.self.inside.marks c.self.inside.segments c.deref_mut.result.now c.mark_taken.new.marks c.self.inside.deferred.items
    c.self.inside.spare c.args.self.now (run c.in_ok-best.best.unit c.args.exp) c.self.invariant.marked c.self.view_is found.0 found.1
    (record { same = c.deref_mut.ensures.value; long = c.deref_mut.ensures.len; kept = c.mark_taken.auto.marks }) c.mark_taken.ensures in
    record {
      place = found_place c.self.inside.segments c.self.inside.marks.items c.self.inside.deferred.items c.self.inside.spare c.args.self.now
          c.args.exp (Some c.in_ok-best.best) c.self.invariant.marked c.self.view_is best;
      taken = new.1;
      parted = new.0.parted;
    }
