-- Lemmas: runs that are free, aligned or maximal.
use Rattle.std.proofs.Common.{◌≡◌, ◌≤◌, ◌<◌, inl, inr, ⊎_elim, ℕ, zero, suc, ◌+◌, ◌-◌, ◌*◌, ◌/◌, ◌%◌, ◌^◌, Bool, true, false, List}
use Rattle.std.proofs.Common.{ap, ◌∙◌, subst, arith}
use Rattle.std.specs.Prelude.{not, nat_lt, nat_le}
use Rattle.std.specs.List.{list_any, list_all, range_with_len}
use Rattle.std.proofs.Math.Nat.{mul-mod_left}
use Rattle.std.proofs.lemmas.Nat.{pow_pos, pow-add, div-add-mod', mod-mul-add}
use Rattle.std.proofs.lemmas.Bool.{and_parts, and_cases}
use Rattle.std.proofs.lemmas.Bool.{leb-true, ltb-false, not-true}
use Rattle.space_model.specs.Runs.{Run, run, end_of, meets, is_free, run_around, is_maximal}
use Rattle.space_model.proofs.Members.{any_none}
use Rattle.space_model.proofs.Minima.{first_and_rest}
use Rattle.space_model.specs.Apart.{In, Apart, IsRun}

-- ---- runs that do not meet

pub apart-meets : (r q : Run) → meets r q ≡ false → Apart r q
apart-meets r q e = ⊎_elim
    (λ a. inr (ltb-false r.unit (end_of q) a)) (λ a. inl (ltb-false q.unit (end_of r) a)) (and_cases (nat_lt r.unit (end_of q)) (nat_lt q.unit (end_of r)) e)

pub free_run : (units : ℕ) (held : List Run) (r : Run) → is_free units held r ≡ true → (end_of r ≤ units) × ((q : Run) → In q held → Apart r q)
free_run units held r e = let p = and_parts (nat_le (end_of r) units) (not (list_any (meets r) held)) e in
    (leb-true (end_of r) units p.0, λ q a. apart-meets r q (any_none (meets r) held q (not-true _ p.1) a))

-- ---- aligned units

pub aligned_times : (u i e x : ℕ) → e ≤ x → u ≡ i * 2 ^ x → u % 2 ^ e ≡ 0
aligned_times u i e x l is =
    let split : x ≡ (x - e) + e = omega (arith, l) in
    let size : 2 ^ x ≡ 2 ^ (x - e) * 2 ^ e = ap (λ n. 2 ^ n) split ∙ pow-add 2 (x - e) e in
    let whole : u ≡ (i * 2 ^ (x - e)) * 2 ^ e = omega (arith, is, ap (λ n. i * n) size) in
    ap (λ n. n % 2 ^ e) whole ∙ mul-mod_left (i * 2 ^ (x - e)) (2 ^ e)

-- an aligned unit is a multiple
pub multiple : (u e : ℕ) → u % 2 ^ e ≡ 0 → u ≡ u / 2 ^ e * 2 ^ e
multiple u e is = let whole = div-add-mod' u (2 ^ e) in omega (arith, whole, is)

-- ---- the run of an exponent around a unit

around_is : (unit exp first : ℕ) → first % 2 ^ exp ≡ 0 → first ≤ unit → unit < first + 2 ^ exp → unit - unit % 2 ^ exp ≡ first
around_is unit exp first aligned low high =
    let whole = multiple first exp aligned in
    let parts : unit ≡ first / 2 ^ exp * 2 ^ exp + (unit - first) = omega (arith, whole, low) in
    let digit : unit % 2 ^ exp ≡ unit - first =
    ap (λ n. n % 2 ^ exp) parts ∙ mod-mul-add (first / 2 ^ exp) (2 ^ exp) (unit - first) (omega (arith, low, high)) in
    omega (arith, digit, low)

all_fail : (test : ℕ → Bool) (from n : ℕ) → list_all (λ e. not (test e)) (range_with_len from n) ≡ true → (e : ℕ) → from ≤ e → e < from + n → test e ≡ false
all_fail test from zero all e low high = absurd (omega (arith, low, high))
all_fail test from (suc n) all e low high =
    let parts = and_parts (not (test from)) (list_all (λ i. not (test i)) (range_with_len (from + 1) n)) all in
    first_and_rest (λ i. test i ≡ false) from (from + suc n) (not-true _ parts.0)
    (λ i a b. all_fail test (from + 1) n parts.1 i a (omega (arith, b))) e low high

-- no larger run that has a maximal one inside is free
pub larger_not_free : (top units : ℕ) (held : List Run) (r q : Run) → is_maximal top units held r ≡ true → IsRun top units q → r.exp < q.exp
    → q.unit ≤ r.unit → end_of r ≤ end_of q → is_free units held q ≡ false
larger_not_free top units held r q maximal is more low high =
    let fits = is.exp in
    let positive = pow_pos r.exp in
    let least : r.exp + 1 ≤ q.exp = omega (arith, more) in
    let most : q.exp < r.exp + 1 + (top - r.exp) = omega (arith, more, fits) in
    let tests = (and_parts (is_free units held r)
    (list_all (λ e. not (is_free units held (run_around r.unit e))) (range_with_len (r.exp + 1) (top - r.exp))) maximal).1 in
    let fails : is_free units held (run_around r.unit q.exp) ≡ false =
    all_fail (λ e. is_free units held (run_around r.unit e)) (r.exp + 1) (top - r.exp) tests q.exp least most in
    let here : r.unit - r.unit % 2 ^ q.exp ≡ q.unit = around_is r.unit q.exp q.unit is.aligned low (omega (arith, high, positive)) in
    subst (λ u. is_free units held (run u q.exp) ≡ false) here fails
