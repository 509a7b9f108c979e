-- Free, deferred and taken runs part the units after each change.
use Rattle.std.proofs.Common.{◌≡◌, ◌≤◌, ◌<◌, ◌≢◌, ◌⊎◌, inl, inr, ⊎_elim, Bool, true, false, cond, List, [], ◌∷◌, ◌++◌, refl}
use Rattle.std.proofs.Common.{sym, ap, ◌∙◌, subst, arith}
use Rattle.std.specs.Prelude.{not, nat_lt}
use Rattle.std.proofs.lemmas.Nat.{pow_pos}
use Rattle.std.proofs.lemmas.Bool.{ltb-true, ltb-false, both_ways, not-true}
use Rattle.space_model.specs.Runs.{Run, end_of, is_free}
use Rattle.space_model.specs.Apart.{In, Pairs, Apart, IsRun}
use Rattle.space_model.proofs.Members.{in_append, in_front, in_behind, in_filter, filter_passes, pairs_append, pairs_front, pairs_behind, pairs_cross, pairs_filter}
use Rattle.space_model.proofs.FreeRuns.{free_run}
use Rattle.space_model.proofs.Serving.{swapped, wider}
use Rattle.buddy_space.specs.SpaceState.{SpaceState, most_segments, largest_exp, units, held, Before, IsParted, with_run, is_same, without}
use Rattle.buddy_space.specs.SpaceState.{with_segment, taking, giving, deferring, settling}
use Rattle.buddy_space.proofs.Begun.{same_self}

-- ---- one more run

first_in : (b : Bool) (r q x : Run) (qs rest : List Run) → (In x rest → (r ≡ x) ⊎ In x qs) → In x (cond b (r ∷ q ∷ qs) (q ∷ rest))
    → (r ≡ x) ⊎ In x (q ∷ qs)
first_in true r q x qs rest go a = a
first_in false r q x qs rest go a = ⊎_elim
    (λ here. inr (inl here)) (λ later. ⊎_elim (λ new. inl new) (λ old. inr (inr old)) (go later)) a

pub in_with_run : (r : Run) (rs : List Run) (x : Run) → In x (with_run r rs) → (r ≡ x) ⊎ In x rs
in_with_run r [] x a = a
in_with_run r (q ∷ qs) x a = first_in (nat_lt r.unit q.unit) r q x qs (with_run r qs) (in_with_run r qs x) a

in_first : (b : Bool) (r q x : Run) (qs rest : List Run) → (In x qs → In x rest) → In x (q ∷ qs) → In x (cond b (r ∷ q ∷ qs) (q ∷ rest))
in_first true r q x qs rest go a = inr a
in_first false r q x qs rest go a = ⊎_elim (λ here. inl here) (λ later. inr (go later)) a

pub with_run_in : (r : Run) (rs : List Run) (x : Run) → In x rs → In x (with_run r rs)
with_run_in r [] x a = absurd a
with_run_in r (q ∷ qs) x a = in_first (nat_lt r.unit q.unit) r q x qs (with_run r qs) (with_run_in r qs x) a

new_first : (b : Bool) (r q : Run) (qs rest : List Run) → In r rest → In r (cond b (r ∷ q ∷ qs) (q ∷ rest))
new_first true r q qs rest a = inl refl
new_first false r q qs rest a = inr a

pub with_run_new : (r : Run) (rs : List Run) → In r (with_run r rs)
with_run_new r [] = inl refl
with_run_new r (q ∷ qs) = new_first (nat_lt r.unit q.unit) r q qs (with_run r qs) (with_run_new r qs)

apart_first : (b : Bool) (r q : Run) (qs rest : List Run) → ((x : Run) → In x (q ∷ qs) → Apart r x) → Pairs Apart (q ∷ qs) → Pairs Apart rest
    → ((x : Run) → In x rest → (r ≡ x) ⊎ In x qs) → Pairs Apart (cond b (r ∷ q ∷ qs) (q ∷ rest))
apart_first true r q qs rest apart p go parts = (apart, p)
apart_first false r q qs rest apart p go parts = (
  λ x a. ⊎_elim (λ new. subst (λ y. Apart q y) new (swapped r q (apart q (inl refl)))) (λ old. p.0 x old) (parts x a),
  go,
)

apart_with_run : (r : Run) (rs : List Run) → ((x : Run) → In x rs → Apart r x) → Pairs Apart rs → Pairs Apart (with_run r rs)
apart_with_run r [] apart p = (λ x a. absurd a, tt)
apart_with_run r (q ∷ qs) apart p =
    apart_first (nat_lt r.unit q.unit) r q qs (with_run r qs) apart p (apart_with_run r qs (λ x a. apart x (inr a)) p.1) (in_with_run r qs)

ascends_first : (b : Bool) (r q : Run) (qs rest : List Run) → nat_lt r.unit q.unit ≡ b → r.unit ≢ q.unit → Pairs Before (q ∷ qs) → Pairs Before rest
    → ((x : Run) → In x rest → (r ≡ x) ⊎ In x qs) → Pairs Before (cond b (r ∷ q ∷ qs) (q ∷ rest))
ascends_first true r q qs rest is ne p go parts =
    let less = ltb-true r.unit q.unit is in (
      λ x a. ⊎_elim
          (λ here. let same = ap (λ (y : Run). y.unit) here in omega (arith, less, same)) (λ old. let more = p.0 x old in omega (arith, less, more)) a,
      p,
    )
ascends_first false r q qs rest is ne p go parts =
    let low = ltb-false r.unit q.unit is in
    let less : q.unit < r.unit = omega (arith, low, ne) in
    (λ x a. ⊎_elim (λ new. subst (λ (y : Run). q.unit < y.unit) new less) (λ old. p.0 x old) (parts x a), go)

ascends_with_run : (r : Run) (rs : List Run) → ((x : Run) → In x rs → r.unit ≢ x.unit) → Pairs Before rs → Pairs Before (with_run r rs)
ascends_with_run r [] others p = (λ x a. absurd a, tt)
ascends_with_run r (q ∷ qs) others p =
    ascends_first (nat_lt r.unit q.unit) r q qs (with_run r qs) refl (others q (inl refl)) p
    (ascends_with_run r qs (λ x a. others x (inr a)) p.1) (in_with_run r qs)

pub not_at : (r q : Run) → Apart r q → r.unit ≢ q.unit
not_at r q apart same =
    let some = pow_pos r.exp in
    let also = pow_pos q.exp in ⊎_elim
    (λ (l : end_of r ≤ q.unit). omega (arith, l, some, same)) (λ (l : end_of q ≤ r.unit). omega (arith, l, also, same)) apart

-- ---- one run fewer

pub in_without : (r : Run) (rs : List Run) (x : Run) → In x (without r rs) → In x rs
in_without r rs x a = in_filter (λ q. not (is_same r q)) rs x a

pub not_in_without : (r : Run) (rs : List Run) (x : Run) → In x (without r rs) → r ≢ x
not_in_without r rs x a same =
    both_ways _ (not-true _ (filter_passes (λ q. not (is_same r q)) rs x a)) (subst (λ y. is_same r y ≡ true) same (same_self r))

-- two members are one, or apart
pub one_or_apart : (rs : List Run) (r q : Run) → Pairs Apart rs → In r rs → In q rs → (r ≡ q) ⊎ Apart r q
one_or_apart [] r q p a b = absurd a
one_or_apart (x ∷ xs) r q p a b = ⊎_elim
    (λ here. ⊎_elim (λ there. inl (sym here ∙ there)) (λ later. inr (subst (λ y. Apart y q) here (p.0 q later))) b)
    (λ later. ⊎_elim (λ there. inr (subst (λ y. Apart r y) there (swapped x r (p.0 r later)))) (λ both. one_or_apart xs r q p.1 later both) b) a

-- ---- the states

-- a taken run is apart from each other held one
pub others_apart : (s : SpaceState) (r q : Run) → IsParted s → In r s.taken → In q (without r s.taken ++ s.deferred) → Apart r q
others_apart s r q parted taken a = ⊎_elim
    (λ b. ⊎_elim (λ same. absurd (not_in_without r s.taken q b same)) (λ apart. apart)
    (one_or_apart s.taken r q (pairs_front Apart s.taken s.deferred parted.apart) taken (in_without r s.taken q b)))
    (λ b. pairs_cross Apart s.taken s.deferred parted.apart r q taken b)
    (in_append (without r s.taken) s.deferred q a)

pub parted_taking : (s : SpaceState) (r : Run) → IsParted s → IsRun largest_exp (units s) r → ((q : Run) → In q (held s) → Apart r q) → IsParted (taking s r)
parted_taking s r parted is apart = record {
  most = parted.most;
  runs = λ q a. ⊎_elim
      (λ b. ⊎_elim (λ new. subst (λ x. IsRun largest_exp (units s) x) new is) (λ old. parted.runs q (in_front s.taken s.deferred q old)) (in_with_run r s.taken q b))
      (λ b. parted.runs q (in_behind s.taken s.deferred q b))
      (in_append (with_run r s.taken) s.deferred q a);
  apart = pairs_append Apart (with_run r s.taken) s.deferred
      (apart_with_run r s.taken (λ x a. apart x (in_front s.taken s.deferred x a)) (pairs_front Apart s.taken s.deferred parted.apart))
      (pairs_behind Apart s.taken s.deferred parted.apart)
      (λ x y a b. ⊎_elim
      (λ new. subst (λ z. Apart z y) new (apart y (in_behind s.taken s.deferred y b)))
      (λ old. pairs_cross Apart s.taken s.deferred parted.apart x y old b) (in_with_run r s.taken x a));
  ascending = ascends_with_run r s.taken (λ x a. not_at r x (apart x (in_front s.taken s.deferred x a))) parted.ascending;
}

pub parted_giving : (s : SpaceState) (r : Run) → IsParted s → IsParted (giving s r)
parted_giving s r parted = record {
  most = parted.most;
  runs = λ q a. ⊎_elim
      (λ b. parted.runs q (in_front s.taken s.deferred q (in_without r s.taken q b))) (λ b. parted.runs q (in_behind s.taken s.deferred q b))
      (in_append (without r s.taken) s.deferred q a);
  apart = pairs_append Apart (without r s.taken) s.deferred
      (pairs_filter Apart (λ q. not (is_same r q)) s.taken (pairs_front Apart s.taken s.deferred parted.apart))
      (pairs_behind Apart s.taken s.deferred parted.apart)
      (λ x y a b. pairs_cross Apart s.taken s.deferred parted.apart x y (in_without r s.taken x a) b);
  ascending = pairs_filter Before (λ q. not (is_same r q)) s.taken parted.ascending;
}

pub parted_deferring : (s : SpaceState) (r : Run) → IsParted s → In r s.taken → IsParted (deferring s r)
parted_deferring s r parted taken = record {
  most = parted.most;
  runs = λ q a. ⊎_elim
      (λ b. parted.runs q (in_front s.taken s.deferred q (in_without r s.taken q b)))
      (λ b. ⊎_elim
      (λ old. parted.runs q (in_behind s.taken s.deferred q old))
      (λ new. ⊎_elim (λ same. subst (λ x. IsRun largest_exp (units s) x) same (parted.runs r (in_front s.taken s.deferred r taken))) (λ none. absurd none) new)
      (in_append s.deferred (r ∷ []) q b))
      (in_append (without r s.taken) (s.deferred ++ r ∷ []) q a);
  apart = pairs_append Apart (without r s.taken) (s.deferred ++ r ∷ [])
      (pairs_filter Apart (λ q. not (is_same r q)) s.taken (pairs_front Apart s.taken s.deferred parted.apart))
      (pairs_append Apart s.deferred (r ∷ []) (pairs_behind Apart s.taken s.deferred parted.apart) (λ y b. absurd b, tt)
      (λ x y a b. ⊎_elim
      (λ same. subst (λ z. Apart x z) same (swapped r x (pairs_cross Apart s.taken s.deferred parted.apart r x taken a)))
      (λ none. absurd none) b))
      (λ x y a b. ⊎_elim
      (λ old. pairs_cross Apart s.taken s.deferred parted.apart x y (in_without r s.taken x a) old)
      (λ new. ⊎_elim
      (λ same. subst (λ z. Apart x z) same (swapped r x (others_apart s r x parted taken (in_front (without r s.taken) s.deferred x a))))
      (λ none. absurd none) new)
      (in_append s.deferred (r ∷ []) y b));
  ascending = pairs_filter Before (λ q. not (is_same r q)) s.taken parted.ascending;
}

pub parted_settling : (s : SpaceState) → IsParted s → IsParted (settling s)
parted_settling s parted = record {
  most = parted.most;
  runs = λ q a. ⊎_elim (λ b. parted.runs q (in_front s.taken s.deferred q b)) (λ none. absurd none) (in_append s.taken [] q a);
  apart = pairs_append Apart s.taken [] (pairs_front Apart s.taken s.deferred parted.apart) tt (λ x y a b. absurd b);
  ascending = parted.ascending;
}

pub parted_with_segment : (s : SpaceState) → IsParted s → s.segments < most_segments → IsParted (with_segment s)
parted_with_segment s parted few = record {
  most = omega (arith, few);
  runs = λ q a. wider largest_exp (units s) (units (with_segment s)) q (omega arith) (parted.runs q a);
  apart = parted.apart;
  ascending = parted.ascending;
}

-- ---- a run is free

pub free_apart : (s : SpaceState) (r q : Run) → is_free (units s) (held s) r ≡ true → In q (held s) → Apart r q
free_apart s r q free a = (free_run (units s) (held s) r free).1 q a
