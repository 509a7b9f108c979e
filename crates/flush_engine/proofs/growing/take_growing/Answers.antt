use Rattle.std.proofs.Common.{◌≡◌, ◌<◌, ℕ, None, ◌∙◌, ap, sym, subst, arith}
use Rattle.space_model.specs.Sizes.{segment_units}
use Rattle.space_model.specs.Runs.{run, place}
use Rattle.space_model.specs.Apart.{In}
use Rattle.buddy_space.specs.SpaceState.{SpaceState, held, with_segment}
use Rattle.buddy_space.proofs.Parted.{with_run_in}
use Rattle.flush_engine.proofs.NextSegment.{place-grown}
use Rattle.flush_engine.proofs.growing.take_growing.Invariants.{Grows}
use Rattle.flush_engine.proofs.growing.take_growing.Goals as goal

-- one more segment
grows-next : (most exp : ℕ) (first now next : SpaceState) → Grows most exp first now → next ≡ with_segment now
    → place segment_units now.segments (held now) exp ≡ None → (now.segments ≡ most → ⊥) → Grows most exp first next
grows-next most exp first now next g is none below =
    let less : now.segments < most = omega (arith, g.inside, below) in
    subst (λ s. Grows most exp first s) (sym is) (record {
      least = omega (arith, g.least);
      inside = omega (arith, less);
      space = ap with_segment g.space;
      place = place-grown segment_units (held now) exp now.segments most less none ∙ g.place;
    })

pub loop-unit-preserved : goal.loop-unit-preserved
loop-unit-preserved c =
    let same = c.in_default.ensures.taken in
    grows-next c.args.most c.args.exp c.args.space.now c.loop-unit.space c.add_segment.new.self c.loop-unit.invariant
    (c.in_ok-add_segment.ensures.ok ∙ ap with_segment same) (sym c.in_default.ensures.place)
    (λ e. c.if-segments-most.false (c.segments.ensures.segments ∙ ap (λ s. s.segments) same ∙ e))

pub returns-in-Some-clause-kept : goal.returns-in-Some-clause-kept
returns-in-Some-clause-kept c = λ r i.
    let first : c.loop-unit.space.taken ≡ c.args.space.now.taken = ap (λ s. s.taken) c.loop-unit.invariant.space in
    subst (λ (s : SpaceState). In r s.taken) (sym c.in-Some.ensures.taken)
    (with_run_in (run c.in-Some.unit c.args.exp) c.loop-unit.space.taken r (subst (λ runs. In r runs) (sym first) i))
