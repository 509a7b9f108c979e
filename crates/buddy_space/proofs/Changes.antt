-- What marks that change make of the state that callers see.
use Rattle.std.proofs.Common.{◌≡◌, ◌≤◌, ◌<◌, ◌≢◌, ◌⊎◌, inl, inr, ⊎_elim, ℕ, ◌*◌, Bool, true, false, cond, List, [], ◌∷◌, map, length}
use Rattle.std.proofs.Common.{Option, Some, None, refl, sym, ap, ◌∙◌, subst, arith}
use Rattle.std.specs.Prelude.{not, ◌==◌}
use Rattle.std.proofs.lemmas.Nat.{pow_pos}
use Rattle.std.proofs.lemmas.Bool.{cases_lt, cases_order, and_parts}
use Rattle.space_model.specs.Runs.{Run, run, end_of}
use Rattle.space_model.specs.Apart.{In, Pairs, Apart, IsRun}
use Rattle.space_model.proofs.Members.{in_append, in_front, in_behind, pairs_front}
use Rattle.buddy_space.specs.declared.marks.Mark.{Mark}
use Rattle.buddy_space.specs.declared.marks.Mark.TheVariants.{Free, Taken, Held}
use Rattle.buddy_space.specs.declared.marks.Run.{Run as UnitRun}
use Rattle.buddy_space.specs.SpaceState.{SpaceState, largest_exp, units, with_run, is_same, without, taking, giving}
use Rattle.buddy_space.specs.Marks.{mark_at, begun, taken_from, run_of, Has, IsOutside, AreFree, IsFilled, IsTaken, seen, IsMarked}
use Rattle.buddy_space.proofs.Begun.{begun_at, begins_at, is_taken, taken_more, taken_fewer}
use Rattle.buddy_space.proofs.Parted.{in_with_run, with_run_in, with_run_new, in_without, one_or_apart, others_apart, parted_taking, parted_giving}
use Rattle.buddy_space.proofs.Parted.{free_apart}
use Rattle.buddy_space.proofs.Freed.{outside, free_by_marks}

-- ---- units

pub in_or_out : (r : Run) (u : ℕ) → Has r u ⊎ IsOutside r u
in_or_out r u = ⊎_elim
    (λ (x : u < r.unit). inr (inl x))
    (λ (x : r.unit ≤ u). ⊎_elim (λ (y : u < end_of r). inl (x, y)) (λ (y : end_of r ≤ u). inr (inr y)) (cases_lt u (end_of r)))
    (cases_lt u r.unit)

pub not_both : (r : Run) (u : ℕ) → IsOutside r u → Has r u → ⊥
not_both r u out has =
    let low = has.0 in
    let high = has.1 in ⊎_elim (λ (x : u < r.unit). omega (arith, x, low)) (λ (x : end_of r ≤ u). omega (arith, x, high)) out

pub held_not_free : (m : Mark) → m ≡ Held → m ≡ Free → ⊥
held_not_free m a b = cc

taken_not_free : (m : Mark) (e : ℕ) → m ≡ Taken e → m ≡ Free → ⊥
taken_not_free m e a b = cc

-- ---- a run is taken

taken_no_free : (marks new : List Mark) (r : Run) (u : ℕ) → IsTaken marks new r → Has r u → mark_at new u ≡ Free → ⊥
taken_no_free marks new r u is has free = ⊎_elim
    (λ (same : u ≡ r.unit). taken_not_free (mark_at new r.unit) r.exp is.begins (subst (λ v. mark_at new v ≡ Free) same free))
    (λ other. held_not_free (mark_at new u) (is.inside u (above other) has.1) free) (cases_order u r.unit)
  where
    above : (u < r.unit) ⊎ (r.unit < u) → r.unit < u
    above o = let low = has.0 in ⊎_elim (λ (x : u < r.unit). omega (arith, x, low)) (λ x. x) o

taken_runs : (marks new : List Mark) (r : Run) → length marks ≡ length new → AreFree marks r → IsTaken marks new r → taken_from 0 new ≡ with_run r (taken_from 0 marks)
taken_runs marks new r long free is =
    let some = pow_pos r.exp in
    taken_more marks new r long agree (ap begun (free r.unit (omega arith) (omega (arith, some)))) (ap begun is.begins)
  where
    agree : (k : ℕ) → k ≢ r.unit → begun_at marks k ≡ begun_at new k
    agree k ne = ⊎_elim
        (λ has. let low = has.0 in ap begun (free k has.0 has.1) ∙ sym (ap begun (is.inside k (omega (arith, low, ne)) has.1)))
        (λ out. ap begun (sym (is.outside k out))) (in_or_out r k)

marked_taking : (marks new : List Mark) (s : SpaceState) (r : Run) → IsMarked marks s → IsRun largest_exp (units s) r → AreFree marks r
    → length marks ≡ length new → IsTaken marks new r → IsMarked new (taking s r)
marked_taking marks new s r is run free long took = record {
  whole = sym long ∙ is.whole;
  parted = parted_taking s r is.parted run (λ q a. free_apart s r q (free_by_marks marks s r is run.ends free) a);
  free = λ u q e a has. ⊎_elim
      (λ here. taken_no_free marks new r u took here e)
      (λ out. ⊎_elim
      (λ b. ⊎_elim
      (λ same. not_both r u out (subst (λ x. Has x u) (sym same) has))
      (λ old. is.free u q (sym (took.outside u out) ∙ e) (in_front s.taken s.deferred q old) has)
      (in_with_run r s.taken q b))
      (λ b. is.free u q (sym (took.outside u out) ∙ e) (in_behind s.taken s.deferred q b) has)
      (in_append (with_run r s.taken) s.deferred q a))
      (in_or_out r u);
  held = λ u l none. ⊎_elim
      (λ here. absurd (none r (in_front (with_run r s.taken) s.deferred r (with_run_new r s.taken)) here))
      (λ out. took.outside u out ∙ is.held u l (λ q a has. none q (⊎_elim
      (λ b. in_front (with_run r s.taken) s.deferred q (with_run_in r s.taken q b)) (λ b. in_behind (with_run r s.taken) s.deferred q b)
      (in_append s.taken s.deferred q a)) has))
      (in_or_out r u);
}

-- what a space keeps, and what callers see
abbrev pub IsSeen : ℕ → List Mark → List UnitRun → ℕ → SpaceState → Type 0
IsSeen segments marks deferred spare s = IsMarked marks (seen segments marks deferred spare) × (seen segments marks deferred spare ≡ s)

pub shown : (segments : ℕ) (marks : List Mark) (deferred : List UnitRun) (spare : ℕ) (s : SpaceState) → seen segments marks deferred spare ≡ s → IsMarked marks s
    → IsSeen segments marks deferred spare s
shown segments marks deferred spare s same is = (subst (λ t. IsMarked marks t) (sym same) is, same)

abbrev with_runs : SpaceState → List Run → SpaceState
with_runs s runs = record s { taken = runs }

pub seen_taking : (segments : ℕ) (marks new : List Mark) (deferred : List UnitRun) (spare : ℕ) (r : Run) → IsMarked marks (seen segments marks deferred spare)
    → IsRun largest_exp (4096 * segments) r → AreFree marks r → length marks ≡ length new → IsTaken marks new r
    → IsSeen segments new deferred spare (taking (seen segments marks deferred spare) r)
seen_taking segments marks new deferred spare r is run free long took =
    shown segments new deferred spare (taking (seen segments marks deferred spare) r)
    (ap (with_runs (seen segments marks deferred spare)) (taken_runs marks new r long free took))
    (marked_taking marks new (seen segments marks deferred spare) r is run free long took)

-- ---- a run is given back

pub same_run : (r q : Run) → is_same r q ≡ true → r ≡ q
same_run r q e =
    let parts = and_parts (r.unit == q.unit) (r.exp == q.exp) e in
    let unit = number r.unit q.unit parts.0 in
    let exp = number r.exp q.exp parts.1 in
    ap (λ u. run u r.exp) unit ∙ ap (λ x. run q.unit x) exp
  where
    number : (a b : ℕ) → (a == b) ≡ true → a ≡ b
    number a b e = grind arith

same_or_first : (r q x : Run) (qs : List Run) (b : Bool) → is_same r q ≡ b → (In x qs → (r ≡ x) ⊎ In x (without r qs)) → In x (q ∷ qs)
    → (r ≡ x) ⊎ In x (cond (not b) (q ∷ without r qs) (without r qs))
same_or_first r q x qs true is go a = ⊎_elim (λ here. inl (same_run r q is ∙ here)) (λ later. go later) a
same_or_first r q x qs false is go a = ⊎_elim (λ here. inr (inl here)) (λ later. ⊎_elim (λ same. inl same) (λ old. inr (inr old)) (go later)) a

pub same_or_in : (r : Run) (rs : List Run) (x : Run) → In x rs → (r ≡ x) ⊎ In x (without r rs)
same_or_in r [] x a = absurd a
same_or_in r (q ∷ qs) x a = same_or_first r q x qs (is_same r q) refl (same_or_in r qs x) a

pub none_from : (o : Option ℕ) → ((e : ℕ) → o ≡ Some e → ⊥) → o ≡ None
none_from None never = refl
none_from (Some e) never = absurd (never e refl)

-- no other taken run begins in a taken one
none_begins : (marks : List Mark) (r : Run) (k : ℕ) → Pairs Apart (taken_from 0 marks) → In r (taken_from 0 marks) → Has r k → k ≢ r.unit → begun_at marks k ≡ None
none_begins marks r k apart a has ne = none_from (begun_at marks k) (λ e is.
    let some = pow_pos e in ⊎_elim
    (λ same. ne (sym (ap (λ (q : Run). q.unit) same)))
    (λ far. outside r (run k e) k far has (omega arith, omega (arith, some)))
    (one_or_apart (taken_from 0 marks) r (run k e) apart a (is_taken marks k e is)))

given_runs : (marks new : List Mark) (r : Run) → length marks ≡ length new → Pairs Apart (taken_from 0 marks) → In r (taken_from 0 marks) → IsFilled marks new r Free
    → taken_from 0 new ≡ without r (taken_from 0 marks)
given_runs marks new r long apart a is =
    let some = pow_pos r.exp in
    taken_fewer marks new r long agree (begins_at marks r a) (ap begun (is.inside r.unit (omega arith) (omega (arith, some))))
  where
    agree : (k : ℕ) → k ≢ r.unit → begun_at marks k ≡ begun_at new k
    agree k ne = ⊎_elim
        (λ has. none_begins marks r k apart a has ne ∙ sym (ap begun (is.inside k has.0 has.1)))
        (λ out. ap begun (sym (is.outside k out))) (in_or_out r k)

marked_giving : (marks new : List Mark) (s : SpaceState) (r : Run) → IsMarked marks s → In r s.taken → length marks ≡ length new → IsFilled marks new r Free
    → IsMarked new (giving s r)
marked_giving marks new s r is taken long filled = record {
  whole = sym long ∙ is.whole;
  parted = parted_giving s r is.parted;
  free = λ u q e a has. ⊎_elim
      (λ here. outside r q u (others_apart s r q is.parted taken a) here has)
      (λ out. is.free u q (sym (filled.outside u out) ∙ e) (⊎_elim
      (λ b. in_front s.taken s.deferred q (in_without r s.taken q b)) (λ b. in_behind s.taken s.deferred q b)
      (in_append (without r s.taken) s.deferred q a)) has)
      (in_or_out r u);
  held = λ u l none. ⊎_elim
      (λ here. filled.inside u here.0 here.1)
      (λ out. filled.outside u out ∙ is.held u l (λ q a has. ⊎_elim
      (λ b. ⊎_elim
      (λ same. not_both r u out (subst (λ x. Has x u) (sym same) has))
      (λ old. none q (in_front (without r s.taken) s.deferred q old) has)
      (same_or_in r s.taken q b))
      (λ b. none q (in_behind (without r s.taken) s.deferred q b) has)
      (in_append s.taken s.deferred q a)))
      (in_or_out r u);
}

pub seen_giving : (segments : ℕ) (marks new : List Mark) (deferred : List UnitRun) (spare : ℕ) (r : Run) → IsMarked marks (seen segments marks deferred spare)
    → In r (taken_from 0 marks) → length marks ≡ length new → IsFilled marks new r Free
    → IsSeen segments new deferred spare (giving (seen segments marks deferred spare) r)
seen_giving segments marks new deferred spare r is taken long filled =
    shown segments new deferred spare (giving (seen segments marks deferred spare) r)
    (ap (with_runs (seen segments marks deferred spare))
    (given_runs marks new r long (pairs_front Apart (taken_from 0 marks) (map run_of deferred) is.parted.apart) taken filled))
    (marked_giving marks new (seen segments marks deferred spare) r is taken long filled)
