-- What a change of a state makes of the runs that are free and of those that are held.
use Rattle.std.proofs.Common.{◌≡◌, ◌≤◌, ◌<◌, ◌≢◌, ◌⊎◌, inl, inr, ⊎_elim, ℕ, ◌+◌, ◌%◌, ◌^◌, Bool, true, false, cond, List, [], ◌∷◌, ◌++◌, Some, None}
use Rattle.std.proofs.Common.{refl, sym, ap, ◌∙◌, subst, arith}
use Rattle.std.specs.Prelude.{not, ◌&&◌, ◌||◌, ◌==◌, nat_le, nat_lt}
use Rattle.std.specs.List.{list_any}
use Rattle.std.proofs.lemmas.Bool.{both_ways, and_parts, and_from, false_from_ne_true, or_cases, ltb-true, cases_Bool, le-leb}
use Rattle.space_model.specs.Sizes.{segment_units}
use Rattle.space_model.specs.Runs.{Run, run, end_of, meets, is_free, place}
use Rattle.space_model.specs.Apart.{In, Pairs, SameMembers, Apart, IsRun}
use Rattle.space_model.proofs.Members.{in_append, in_front, in_behind, pairs_cross}
use Rattle.space_model.proofs.FreeRuns.{free_run}
use Rattle.space_model.proofs.Places.{place_is_run, place_is_free, no_place}
use Rattle.space_model.proofs.Reordered.{free_same, place_same}
use Rattle.space_model.proofs.Serving.{swapped}
use Rattle.buddy_space.specs.SpaceState.{SpaceState, largest_exp, units, held, is_free_run, Before, IsParted, with_run, is_same, without, no_segments}
use Rattle.buddy_space.specs.SpaceState.{with_segment, taking, giving, deferring, settling}
use Rattle.buddy_space.proofs.Begun.{same_self, goes, stays, none_goes, first_place, other_unit}
use Rattle.buddy_space.proofs.Parted.{one_or_apart, in_with_run, with_run_in, with_run_new, not_at, in_without, not_in_without, others_apart}
use Rattle.buddy_space.proofs.Freed.{is_free_from, outside}
use Rattle.buddy_space.proofs.Changes.{same_or_in, same_run}

-- ---- runs of the space

zero_test : (n : ℕ) → (n == 0) ≡ true → n ≡ 0
zero_test n e = grind arith

pub free_is_run : (s : SpaceState) (r : Run) → r.exp ≤ largest_exp → is_free_run s r ≡ true → IsRun largest_exp (units s) r
free_is_run s r fits free =
    let parts = and_parts (r.unit % 2 ^ r.exp == 0) (is_free (units s) (held s) r) free in
    record { exp = fits; aligned = zero_test (r.unit % 2 ^ r.exp) parts.0; ends = (free_run (units s) (held s) r parts.1).0 }

pub free_is_apart : (s : SpaceState) (r q : Run) → is_free_run s r ≡ true → In q (held s) → Apart r q
free_is_apart s r q free a =
    (free_run (units s) (held s) r (and_parts (r.unit % 2 ^ r.exp == 0) (is_free (units s) (held s) r) free).1).1 q a

pub run_is_free : (s : SpaceState) (r : Run) → IsRun largest_exp (units s) r → ((q : Run) → In q (held s) → Apart r q) → is_free_run s r ≡ true
run_is_free s r is apart =
    and_from (r.unit % 2 ^ r.exp == 0) (is_free (units s) (held s) r) (ap (λ n. n == 0) is.aligned) (is_free_from (units s) (held s) r is.ends apart)

-- ---- places

pub place_is_free_run : (s : SpaceState) (exp unit : ℕ) → place segment_units s.segments (held s) exp ≡ Some unit
    → (exp ≤ largest_exp) × (is_free_run s (run unit exp) ≡ true)
place_is_free_run s exp unit found =
    let is = place_is_run largest_exp (units s) (held s) exp unit found in (
      is.exp,
      and_from (unit % 2 ^ exp == 0) (is_free (units s) (held s) (run unit exp)) (ap (λ n. n == 0) is.aligned)
          (place_is_free largest_exp (units s) (held s) exp unit found),
    )

pub no_free_run : (s : SpaceState) (r : Run) → r.exp ≤ largest_exp → place segment_units s.segments (held s) r.exp ≡ None → is_free_run s r ≡ false
no_free_run s r fits none = false_from_ne_true _ (λ free.
    both_ways _ (no_place largest_exp (units s) (held s) r.exp r none (omega arith) (free_is_run s r fits free))
    (and_parts (r.unit % 2 ^ r.exp == 0) (is_free (units s) (held s) r) free).1)

-- ---- a run is taken

taken_held : (s : SpaceState) (r : Run) → SameMembers (held (taking s r)) (r ∷ held s)
taken_held s r = record {
  there = λ q a. ⊎_elim
      (λ b. ⊎_elim (λ new. inl new) (λ old. inr (in_front s.taken s.deferred q old)) (in_with_run r s.taken q b))
      (λ b. inr (in_behind s.taken s.deferred q b)) (in_append (with_run r s.taken) s.deferred q a);
  back = λ q a. ⊎_elim
      (λ new. subst (λ x. In x (held (taking s r))) new (in_front (with_run r s.taken) s.deferred r (with_run_new r s.taken)))
      (λ b. ⊎_elim
      (λ old. in_front (with_run r s.taken) s.deferred q (with_run_in r s.taken q old))
      (λ old. in_behind (with_run r s.taken) s.deferred q old) (in_append s.taken s.deferred q b)) a;
}

one_fewer : (a b m c : Bool) → a && (b && not (m || c)) ≡ (a && (b && not c)) && not m
one_fewer true true true true = refl
one_fewer true true true false = refl
one_fewer true true false true = refl
one_fewer true true false false = refl
one_fewer true false true true = refl
one_fewer true false true false = refl
one_fewer true false false true = refl
one_fewer true false false false = refl
one_fewer false b m c = refl

pub free_after_taking : (s : SpaceState) (r q : Run) → is_free_run (taking s r) q ≡ (is_free_run s q && not (meets q r))
free_after_taking s r q =
    ap (λ b. (q.unit % 2 ^ q.exp == 0) && b) (free_same (units s) (held (taking s r)) (r ∷ held s) q (taken_held s r))
    ∙ one_fewer (q.unit % 2 ^ q.exp == 0) (nat_le (end_of q) (units s)) (meets q r) (list_any (meets q) (held s))

-- ---- a run is given back

pub given_is_free : (s : SpaceState) (r : Run) → IsParted s → In r s.taken → is_free_run (giving s r) r ≡ true
given_is_free s r parted taken =
    run_is_free (giving s r) r (parted.runs r (in_front s.taken s.deferred r taken)) (λ q a. others_apart s r q parted taken a)

-- the same state again
new_goes : (r q : Run) (qs rest : List Run) (b : Bool) → is_same r q ≡ false → without r (q ∷ qs) ≡ q ∷ qs → without r rest ≡ qs
    → without r (cond b (r ∷ q ∷ qs) (q ∷ rest)) ≡ q ∷ qs
new_goes r q qs rest true other kept go = goes r (q ∷ qs) ∙ kept
new_goes r q qs rest false other kept go = stays r q rest other ∙ ap (λ xs. q ∷ xs) go

without-with_run : (r : Run) (rs : List Run) → ((q : Run) → In q rs → r.unit ≢ q.unit) → without r (with_run r rs) ≡ rs
without-with_run r [] others = goes r []
without-with_run r (q ∷ qs) others =
    new_goes r q qs (with_run r qs) (nat_lt r.unit q.unit) (other_unit r q (others q (inl refl))) (none_goes r (q ∷ qs) others)
    (without-with_run r qs (λ x a. others x (inr a)))

pub given_after_taking : (s : SpaceState) (r : Run) → is_free_run s r ≡ true → giving (taking s r) r ≡ s
given_after_taking s r free =
    ap (λ runs. record s { taken = runs })
    (without-with_run r s.taken (λ q a. not_at r q (free_is_apart s r q free (in_front s.taken s.deferred q a))))

lt_false : (a b : ℕ) → b ≤ a → nat_lt a b ≡ false
lt_false a b l = grind arith

same_again : (r q : Run) (qs : List Run) (b : Bool) → is_same r q ≡ b → Pairs Before (q ∷ qs) → In r (q ∷ qs) → (In r qs → with_run r (without r qs) ≡ qs)
    → with_run r (cond (not b) (q ∷ without r qs) (without r qs)) ≡ q ∷ qs
same_again r q qs true is p a go =
    let same = same_run r q is in
    let behind : (x : Run) → In x qs → r.unit < x.unit = λ x b. subst (λ (y : Run). y.unit < x.unit) (sym same) (p.0 x b) in
    ap (with_run r) (none_goes r qs (λ x b e. let l = behind x b in omega (arith, l, e))) ∙ first_place r qs behind ∙ ap (λ x. x ∷ qs) same
same_again r q qs false is p a go = ⊎_elim
    (λ here. absurd (both_ways _ is (subst (λ x. is_same x q ≡ true) here (same_self q))))
    (λ later. let l = p.0 r later in
    ap (λ b. cond b (r ∷ q ∷ without r qs) (q ∷ with_run r (without r qs))) (lt_false r.unit q.unit (omega (arith, l))) ∙ ap (λ xs. q ∷ xs) (go later)) a

with_run-without : (r : Run) (rs : List Run) → Pairs Before rs → In r rs → with_run r (without r rs) ≡ rs
with_run-without r [] p a = absurd a
with_run-without r (q ∷ qs) p a = same_again r q qs (is_same r q) refl p a (λ later. with_run-without r qs p.1 later)

pub taken_after_giving : (s : SpaceState) (r : Run) → IsParted s → In r s.taken → taking (giving s r) r ≡ s
taken_after_giving s r parted taken = ap (λ runs. record s { taken = runs }) (with_run-without r s.taken parted.ascending taken)

pub free_before_giving : (s : SpaceState) (r q : Run) → IsParted s → In r s.taken → is_free_run s q ≡ (is_free_run (giving s r) q && not (meets q r))
free_before_giving s r q parted taken =
    ap (λ t. is_free_run t q) (sym (taken_after_giving s r parted taken)) ∙ free_after_taking (giving s r) r q

-- ---- a run is deferred

pub held_after_deferring : (s : SpaceState) (r : Run) → In r s.taken → SameMembers (held (deferring s r)) (held s)
held_after_deferring s r taken = record {
  there = λ q a. ⊎_elim
      (λ b. in_front s.taken s.deferred q (in_without r s.taken q b))
      (λ b. ⊎_elim
      (λ old. in_behind s.taken s.deferred q old)
      (λ new. ⊎_elim (λ same. subst (λ x. In x (held s)) same (in_front s.taken s.deferred r taken)) (λ none. absurd none) new)
      (in_append s.deferred (r ∷ []) q b))
      (in_append (without r s.taken) (s.deferred ++ r ∷ []) q a);
  back = λ q a. ⊎_elim
      (λ b. ⊎_elim
      (λ same. in_behind (without r s.taken) (s.deferred ++ r ∷ []) q (in_behind s.deferred (r ∷ []) q (inl same)))
      (λ old. in_front (without r s.taken) (s.deferred ++ r ∷ []) q old) (same_or_in r s.taken q b))
      (λ b. in_behind (without r s.taken) (s.deferred ++ r ∷ []) q (in_front s.deferred (r ∷ []) q b))
      (in_append s.taken s.deferred q a);
}

pub free_after_deferring : (s : SpaceState) (r q : Run) → In r s.taken → is_free_run (deferring s r) q ≡ is_free_run s q
free_after_deferring s r q taken =
    ap (λ b. (q.unit % 2 ^ q.exp == 0) && b) (free_same (units s) (held (deferring s r)) (held s) q (held_after_deferring s r taken))

pub place_after_deferring : (s : SpaceState) (r : Run) (exp : ℕ) → In r s.taken
    → place segment_units s.segments (held (deferring s r)) exp ≡ place segment_units s.segments (held s) exp
place_after_deferring s r exp taken = place_same largest_exp (units s) (held (deferring s r)) (held s) exp (held_after_deferring s r taken)

-- ---- all deferred runs are settled

pub settled_is_free : (s : SpaceState) (r : Run) → IsParted s → In r s.deferred → is_free_run (settling s) r ≡ true
settled_is_free s r parted deferred =
    run_is_free (settling s) r (parted.runs r (in_behind s.taken s.deferred r deferred)) (λ q a. ⊎_elim
    (λ b. swapped q r (pairs_cross Apart s.taken s.deferred parted.apart q r b deferred)) (λ none. absurd none) (in_append s.taken [] q a))

free_with : (s t : SpaceState) (q : Run) → units s ≤ units t → ((x : Run) → In x (held t) → In x (held s)) → is_free_run s q ≡ true → is_free_run t q ≡ true
free_with s t q more fewer free =
    let parts = and_parts (q.unit % 2 ^ q.exp == 0) (is_free (units s) (held s) q) free in
    let f = free_run (units s) (held s) q parts.1 in
    let ends = f.0 in
    and_from (q.unit % 2 ^ q.exp == 0) (is_free (units t) (held t) q) parts.0
    (is_free_from (units t) (held t) q (omega (arith, more, ends)) (λ x a. f.1 x (fewer x a)))

pub free_after_settling : (s : SpaceState) (q : Run) → is_free_run s q ≡ true → is_free_run (settling s) q ≡ true
free_after_settling s q free = free_with s (settling s) q (omega arith)
    (λ x a. ⊎_elim (λ b. in_front s.taken s.deferred x b) (λ none. absurd none) (in_append s.taken [] x a)) free

-- ---- one more segment

pub free_after_adding : (s : SpaceState) (q : Run) → is_free_run s q ≡ true → is_free_run (with_segment s) q ≡ true
free_after_adding s q free = free_with s (with_segment s) q (omega arith) (λ x a. a) free

pub added_is_free : (s : SpaceState) (q : Run) → IsParted s → IsRun largest_exp (units (with_segment s)) q → units s ≤ q.unit → is_free_run (with_segment s) q ≡ true
added_is_free s q parted is low = run_is_free (with_segment s) q is (λ x a. let ends = (parted.runs x a).ends in inr (omega (arith, ends, low)))

-- ---- taken runs

pub in_taking : (s : SpaceState) (r q : Run) → In q (taking s r).taken → (r ≡ q) ⊎ In q s.taken
in_taking s r q a = in_with_run r s.taken q a

pub taking_in : (s : SpaceState) (r q : Run) → (r ≡ q) ⊎ In q s.taken → In q (taking s r).taken
taking_in s r q a = ⊎_elim (λ new. subst (λ x. In x (with_run r s.taken)) new (with_run_new r s.taken)) (λ old. with_run_in r s.taken q old) a

pub in_giving : (s : SpaceState) (r q : Run) → In q (giving s r).taken → (r ≢ q) × In q s.taken
in_giving s r q a = (not_in_without r s.taken q a, in_without r s.taken q a)

pub giving_in : (s : SpaceState) (r q : Run) → r ≢ q → In q s.taken → In q (giving s r).taken
giving_in s r q other a = ⊎_elim (λ same. absurd (other same)) (λ old. old) (same_or_in r s.taken q a)

pub parted_without : IsParted no_segments
parted_without = record { most = omega arith; runs = λ r a. absurd a; apart = tt; ascending = tt }

-- ---- each unit

meeting : (q : Run) (runs : List Run) → list_any (meets q) runs ≡ true → (r : Run) × In r runs × (meets q r ≡ true)
meeting q [] is = absurd (cc is)
meeting q (r ∷ rs) is = ⊎_elim
    (λ here. (r, inl refl, here)) (λ later. let f = meeting q rs later in (f.0, inr f.1, f.2)) (or_cases (meets q r) (list_any (meets q) rs) is)

pub unit_is_free_or_held : (s : SpaceState) (unit : ℕ) → unit < units s
    → (is_free_run s (run unit 0) ≡ true) ⊎ ((r : Run) × In r (held s) × (r.unit ≤ unit) × (unit < end_of r))
unit_is_free_or_held s unit low = ⊎_elim
    (λ some. let f = meeting (run unit 0) (held s) some in
    let parts = and_parts (nat_lt unit (end_of f.0)) (nat_lt f.0.unit (unit + 1)) f.2 in
    let begins = ltb-true f.0.unit (unit + 1) parts.1 in
    inr (f.0, f.1, omega (arith, begins), ltb-true unit (end_of f.0) parts.0))
    (λ none. inl (and_from (unit % 1 == 0) (is_free (units s) (held s) (run unit 0)) (ap (λ n. n == 0) (whole unit))
    (and_from (nat_le (unit + 1) (units s)) (not (list_any (meets (run unit 0)) (held s))) (le-leb (unit + 1) (units s) (omega (arith, low)))
    (ap not none))))
    (cases_Bool (list_any (meets (run unit 0)) (held s)))
  where
    whole : (n : ℕ) → n % 1 ≡ 0
    whole n = omega arith

pub free_is_not_held : (s : SpaceState) (unit : ℕ) (r : Run) → is_free_run s (run unit 0) ≡ true → In r (held s) → r.unit ≤ unit → unit < end_of r → ⊥
free_is_not_held s unit r free a low high = outside (run unit 0) r unit (free_is_apart s (run unit 0) r free a) (omega arith, omega arith) (low, high)

pub held_once : (s : SpaceState) (unit : ℕ) (r q : Run) → IsParted s → In r (held s) → In q (held s) → r.unit ≤ unit → unit < end_of r → q.unit ≤ unit
    → unit < end_of q → r ≡ q
held_once s unit r q parted a b low high begins ends = ⊎_elim
    (λ same. same) (λ apart. absurd (outside r q unit apart (low, high) (begins, ends))) (one_or_apart (held s) r q parted.apart a b)
