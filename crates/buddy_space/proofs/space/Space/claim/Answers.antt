use Rattle.std.proofs.Common.{◌≡◌, true, false, refl, sym}
use Rattle.space_model.specs.Runs.{run}
use Rattle.buddy_space.proofs.Written.{unused_is_free, used_is_held, unused_run, written_taking}
use Rattle.buddy_space.proofs.space.Space.claim.Goals as goal

pub returns-then-not-is_unused-clause-free : goal.returns-then-not-is_unused-clause-free
returns-then-not-is_unused-clause-free c =
    rw (← c.self.view_is)
    (sym (used_is_held c.self.inside.marks.items _ (run c.args.unit c.args.exp) c.self.invariant.marked
    (λ unused. wrong (c.if-not-is_unused.ensures.1 (rw c.deref.ensures.value unused)))))
  where
    wrong : false ≡ true → ⊥
    wrong e = cc

pub invariant_of-self : goal.invariant_of-self
invariant_of-self c =
    let unused = rw c.deref.ensures.value at (c.if-not-is_unused.ensures.0 refl) in
    let new = written_taking c.self.inside.marks c.self.inside.segments c.deref_mut.result.now c.mark_taken.new.marks c.self.inside.deferred.items
    c.self.inside.spare c.args.self.now (run c.args.unit c.args.exp) c.self.invariant.marked c.self.view_is
    (unused_run c.self.inside.segments c.self.inside.marks.items c.self.inside.deferred.items c.self.inside.spare (run c.args.unit c.args.exp)
    c.self.invariant.marked c.requires unused) unused.free
    (record { same = c.deref_mut.ensures.value; long = c.deref_mut.ensures.len; kept = c.mark_taken.auto.marks }) c.mark_taken.ensures in
    record { marked = new.0; room = c.self.invariant.room }

pub returns : goal.returns
returns c =
    let unused = rw c.deref.ensures.value at (c.if-not-is_unused.ensures.0 refl) in
    let new = written_taking c.self.inside.marks c.self.inside.segments c.deref_mut.result.now c.mark_taken.new.marks c.self.inside.deferred.items
    c.self.inside.spare c.args.self.now (run c.args.unit c.args.exp) c.self.invariant.marked c.self.view_is
    (unused_run c.self.inside.segments c.self.inside.marks.items c.self.inside.deferred.items c.self.inside.spare (run c.args.unit c.args.exp)
    c.self.invariant.marked c.requires unused) unused.free
    (record { same = c.deref_mut.ensures.value; long = c.deref_mut.ensures.len; kept = c.mark_taken.auto.marks }) c.mark_taken.ensures in
    record {
      free = rw (← c.self.view_is) (sym (unused_is_free c.self.inside.marks.items _ (run c.args.unit c.args.exp) c.self.invariant.marked unused));
      claimed = new.1;
      parted = new.0.parted;
    }
