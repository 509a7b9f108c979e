-- What deferred and settled runs, and one more segment, make of the state that callers see.
use Rattle.std.proofs.Common.{◌≡◌, ◌≤◌, ◌<◌, ◌≢◌, ◌⊎◌, inl, inr, ⊎_elim, ℕ, zero, suc, ◌+◌, ◌-◌, List, [], ◌∷◌, ◌++◌, map, length}
use Rattle.std.proofs.Common.{replicate, refl, sym, ap, ◌∙◌, subst, arith}
use Rattle.std.proofs.lemmas.List.{get_or_append_left, get_or-append_right, get_or-replicate, length-append, length-replicate, map-append}
use Rattle.std.proofs.lemmas.Nat.{pow_pos}
use Rattle.std.proofs.lemmas.Bool.{cases_lt, cases_order}
use Rattle.space_model.specs.Runs.{Run, run}
use Rattle.space_model.specs.Apart.{In, Pairs, Apart}
use Rattle.space_model.proofs.Members.{in_append, in_front, in_behind, pairs_cross}
use Rattle.buddy_space.specs.declared.marks.Mark.{Mark}
use Rattle.buddy_space.specs.declared.marks.Mark.TheVariants.{Free, Held}
use Rattle.buddy_space.specs.declared.marks.Run.{Run as UnitRun}
use Rattle.buddy_space.specs.SpaceState.{SpaceState, most_segments, without, with_segment, deferring, settling}
use Rattle.buddy_space.specs.Marks.{mark_at, begun, with_begun, taken_from, run_of, Has, IsOutside, IsFilled, IsReleased, seen, IsMarked}
use Rattle.buddy_space.proofs.Begun.{begun_at, begins_at, is_taken, taken_same, taken_fewer}
use Rattle.buddy_space.proofs.Parted.{in_without, parted_deferring, parted_settling, parted_with_segment}
use Rattle.buddy_space.proofs.Freed.{outside}
use Rattle.buddy_space.proofs.Changes.{in_or_out, not_both, held_not_free, IsSeen, shown, same_or_in, none_from}

-- ---- a run is deferred

at_or_out : (first k : ℕ) → (k ≡ first) ⊎ IsOutside (run first 0) k
at_or_out first k = ⊎_elim
    (λ same. inl same) (λ o. inr (⊎_elim (λ (x : k < first). inl x) (λ (x : first < k). inr (omega (arith, x))) o)) (cases_order k first)

deferred_runs : (marks new : List Mark) (r : Run) → length marks ≡ length new → In r (taken_from 0 marks) → IsFilled marks new (run r.unit 0) Held
    → taken_from 0 new ≡ without r (taken_from 0 marks)
deferred_runs marks new r long a is = taken_fewer marks new r long agree (begins_at marks r a) (ap begun (is.inside r.unit (omega arith) (omega arith)))
  where
    agree : (k : ℕ) → k ≢ r.unit → begun_at marks k ≡ begun_at new k
    agree k ne = ⊎_elim (λ same. absurd (ne same)) (λ out. ap begun (sym (is.outside k out))) (at_or_out r.unit k)

marked_deferring : (marks new : List Mark) (s : SpaceState) (r : Run) → IsMarked marks s → In r s.taken → length marks ≡ length new
    → IsFilled marks new (run r.unit 0) Held → IsMarked new (deferring s r)
marked_deferring marks new s r is taken long filled = record {
  whole = sym long ∙ is.whole;
  parted = parted_deferring s r is.parted taken;
  free = λ u q e a has. ⊎_elim
      (λ same. held_not_free (mark_at new u) (filled.inside u (omega (arith, same)) (omega (arith, same))) e)
      (λ out. is.free u q (sym (filled.outside u out) ∙ e) (before q a) has) (at_or_out r.unit u);
  held = λ u l none. ⊎_elim
      (λ (same : u ≡ r.unit). absurd (none r new_in (first same)))
      (λ out. filled.outside u out ∙ is.held u l (λ q a has. none q (after q a) has)) (at_or_out r.unit u);
}
  where
    before : (q : Run) → In q (without r s.taken ++ (s.deferred ++ r ∷ [])) → In q (s.taken ++ s.deferred)
    before q a = ⊎_elim
        (λ b. in_front s.taken s.deferred q (in_without r s.taken q b))
        (λ b. ⊎_elim
        (λ old. in_behind s.taken s.deferred q old)
        (λ new. ⊎_elim (λ same. subst (λ x. In x (s.taken ++ s.deferred)) same (in_front s.taken s.deferred r taken)) (λ none. absurd none) new)
        (in_append s.deferred (r ∷ []) q b))
        (in_append (without r s.taken) (s.deferred ++ r ∷ []) q a)

    new_in : In r (without r s.taken ++ (s.deferred ++ r ∷ []))
    new_in = in_behind (without r s.taken) (s.deferred ++ r ∷ []) r (in_behind s.deferred (r ∷ []) r (inl refl))

    after : (q : Run) → In q (s.taken ++ s.deferred) → In q (without r s.taken ++ (s.deferred ++ r ∷ []))
    after q a = ⊎_elim
        (λ b. ⊎_elim
        (λ same. subst (λ x. In x (without r s.taken ++ (s.deferred ++ r ∷ []))) same new_in)
        (λ old. in_front (without r s.taken) (s.deferred ++ r ∷ []) q old) (same_or_in r s.taken q b))
        (λ b. in_behind (without r s.taken) (s.deferred ++ r ∷ []) q (in_front s.deferred (r ∷ []) q b))
        (in_append s.taken s.deferred q a)

    first : {u : ℕ} → u ≡ r.unit → Has r u
    first same = let some = pow_pos r.exp in (omega (arith, same), omega (arith, same, some))

pub seen_deferring : (segments : ℕ) (marks new : List Mark) (deferred : List UnitRun) (spare : ℕ) (r : UnitRun)
    → IsMarked marks (seen segments marks deferred spare) → In (run_of r) (taken_from 0 marks) → length marks ≡ length new
    → IsFilled marks new (run r.unit 0) Held
    → IsSeen segments new (deferred ++ r ∷ []) (spare - 1) (deferring (seen segments marks deferred spare) (run_of r))
seen_deferring segments marks new deferred spare r is taken long filled =
    shown segments new (deferred ++ r ∷ []) (spare - 1) (deferring (seen segments marks deferred spare) (run_of r))
    (ap (λ runs. record { segments = segments; taken = runs; deferred = map run_of (deferred ++ r ∷ []); spare = spare - 1 })
    (deferred_runs marks new (run_of r) long taken filled)
    ∙ ap (λ runs. record { segments = segments; taken = without (run_of r) (taken_from 0 marks); deferred = runs; spare = spare - 1 })
    (map-append run_of deferred (r ∷ [])))
    (marked_deferring marks new (seen segments marks deferred spare) (run_of r) is taken long filled)

-- ---- the spare alone changes

pub spared : (marks : List Mark) (s : SpaceState) (n : ℕ) → IsMarked marks s → IsMarked marks (record s { spare = n })
spared marks s n m = record {
  whole = m.whole;
  parted = record { most = m.parted.most; runs = m.parted.runs; apart = m.parted.apart; ascending = m.parted.ascending };
  free = m.free;
  held = m.held;
}

-- ---- all deferred runs are settled

pub released_more : (old mid new : List Mark) (runs : List Run) (r : Run) → IsReleased old mid runs → IsFilled mid new r Free → IsReleased old new (runs ++ r ∷ [])
released_more old mid new runs r is filled = record {
  each = λ u. ⊎_elim
      (λ here. inl (filled.inside u here.0 here.1, (r, in_behind runs (r ∷ []) r (inl refl), here)))
      (λ out. ⊎_elim
      (λ freed. let w = freed.1 in inl (filled.outside u out ∙ freed.0, (w.0, in_front runs (r ∷ []) w.0 w.1, w.2)))
      (λ kept. inr (
        filled.outside u out ∙ kept.0,
        λ q a has. ⊎_elim
            (λ b. kept.1 q b has)
            (λ b. ⊎_elim (λ same. not_both r u out (subst (λ x. Has x u) (sym same) has)) (λ none. absurd none) b) (in_append runs (r ∷ []) q a),
      ))
      (is.each u))
      (in_or_out r u);
}

settled_runs : (marks new : List Mark) (runs : List Run) → length marks ≡ length new → Pairs Apart (taken_from 0 marks ++ runs) → IsReleased marks new runs
    → taken_from 0 marks ≡ taken_from 0 new
settled_runs marks new runs long apart is = taken_same 0 marks new long (λ k. ⊎_elim
    (λ freed. let w = freed.1 in none_from (begun_at marks k) (λ e begins.
    let some = pow_pos e in
    outside (run k e) w.0 k (pairs_cross Apart (taken_from 0 marks) runs apart (run k e) w.0 (is_taken marks k e begins) w.1)
    (omega arith, omega (arith, some)) w.2) ∙ sym (ap begun freed.0))
    (λ kept. ap begun (sym kept.0)) (is.each k))

marked_settling : (marks new : List Mark) (s : SpaceState) → IsMarked marks s → length marks ≡ length new → IsReleased marks new s.deferred
    → IsMarked new (settling s)
marked_settling marks new s is long released = record {
  whole = sym long ∙ is.whole;
  parted = parted_settling s is.parted;
  free = λ u q e a has. ⊎_elim
      (λ b. ⊎_elim
      (λ freed. let w = freed.1 in outside q w.0 u (pairs_cross Apart s.taken s.deferred is.parted.apart q w.0 b w.1) has w.2)
      (λ kept. is.free u q (sym kept.0 ∙ e) (in_front s.taken s.deferred q b) has) (released.each u))
      (λ none. absurd none) (in_append s.taken [] q a);
  held = λ u l none. ⊎_elim
      (λ freed. freed.0)
      (λ kept. kept.0 ∙ is.held u l (λ q a has. ⊎_elim
      (λ b. none q (in_front s.taken [] q b) has) (λ b. kept.1 q b has) (in_append s.taken s.deferred q a)))
      (released.each u);
}

pub seen_settling : (segments : ℕ) (marks new : List Mark) (deferred : List UnitRun) (spare : ℕ) → IsMarked marks (seen segments marks deferred spare)
    → length marks ≡ length new → IsReleased marks new (map run_of deferred) → IsSeen segments new [] spare (settling (seen segments marks deferred spare))
seen_settling segments marks new deferred spare is long released =
    shown segments new [] spare (settling (seen segments marks deferred spare))
    (ap (λ runs. record { segments = segments; taken = runs; deferred = []; spare = spare })
    (sym (settled_runs marks new (map run_of deferred) long is.parted.apart released)))
    (marked_settling marks new (seen segments marks deferred spare) is long released)

-- ---- one more segment

none_taken : (n m : ℕ) → taken_from n (replicate m Free) ≡ []
none_taken n zero = refl
none_taken n (suc m) = none_taken (suc n) m

none_behind : (n m : ℕ) (marks : List Mark) → taken_from n (marks ++ replicate m Free) ≡ taken_from n marks
none_behind n m [] = none_taken n m
none_behind n m (x ∷ xs) = ap (λ rs. with_begun n (begun x) rs) (none_behind (suc n) m xs)

marked_segment : (marks : List Mark) (s : SpaceState) → IsMarked marks s → s.segments < most_segments → IsMarked (marks ++ replicate 4096 Free) (with_segment s)
marked_segment marks s is few = record {
  whole = let w = is.whole in omega (arith, w, length-append marks (replicate 4096 Free), length-replicate 4096 Free);
  parted = parted_with_segment s is.parted few;
  free = λ u q e a has.
      let w = is.whole in
      let ends = (is.parted.runs q a).ends in
      let high = has.1 in
      let within : u < length marks = omega (arith, w, ends, high) in
      is.free u q (sym (get_or_append_left marks (replicate 4096 Free) Held u within) ∙ e) a has;
  held = λ u l none. let w = is.whole in ⊎_elim
      (λ (x : u < length marks).
      get_or_append_left marks (replicate 4096 Free) Held u x ∙ is.held u (omega (arith, w, x)) none)
      (λ (x : length marks ≤ u).
      get_or-append_right marks (replicate 4096 Free) (length marks) u Held refl x
      ∙ get_or-replicate 4096 (u - length marks) Free Held (omega (arith, w, l, x)))
      (cases_lt u (length marks));
}

pub seen_segment : (segments : ℕ) (marks : List Mark) (deferred : List UnitRun) (spare : ℕ) → IsMarked marks (seen segments marks deferred spare)
    → segments < most_segments
    → IsSeen (segments + 1) (marks ++ replicate 4096 Free) deferred spare (with_segment (seen segments marks deferred spare))
seen_segment segments marks deferred spare is few =
    shown (segments + 1) (marks ++ replicate 4096 Free) deferred spare (with_segment (seen segments marks deferred spare))
    (ap (λ rs. record { segments = segments + 1; taken = rs; deferred = map run_of deferred; spare = spare }) (none_behind 0 4096 marks))
    (marked_segment marks (seen segments marks deferred spare) is few)
