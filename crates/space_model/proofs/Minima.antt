-- Lemmas: the least number that passes a test, and powers of two.
use Rattle.std.proofs.Common.{◌≡◌, ◌≤◌, ◌<◌, ⊎_elim, ℕ, zero, suc, ◌+◌, ◌^◌, Bool, true, false, refl, sym, ap, ◌∙◌, subst, arith}
use Rattle.std.specs.Prelude.{nat_lt}
use Rattle.std.proofs.Math.Nat.{two-pow-succ}
use Rattle.std.proofs.Math.Pow.{pow_mono}
use Rattle.std.proofs.lemmas.Nat.{pow_pos}
use Rattle.std.proofs.lemmas.Bool.{cases_order, lt-ltb, ltb-true, ltb-false}
use Rattle.space_model.specs.Least.{or_next, least_from, log2}

pub record IsLeast (test : ℕ → Bool) (n more least : ℕ) : Type 0 where
  pub low : n ≤ least
  pub high : least ≤ n + more
  pub passes : test least ≡ true
  pub below : (j : ℕ) → n ≤ j → j < least → test j ≡ false

-- what holds of a number and of those behind it, up to an end, holds of all from it on
pub first_and_rest : (P : ℕ → Type 0) (n end : ℕ) → P n → ((m : ℕ) → n + 1 ≤ m → m < end → P m) → (m : ℕ) → n ≤ m → m < end → P m
first_and_rest P n end here rest m low high = ⊎_elim
    (λ (same : n ≡ m). subst P same here)
    (λ apart. ⊎_elim (λ (l : n < m). rest m (omega arith) high) (λ (l : m < n). absurd (omega (arith, l, low))) apart)
    (cases_order n m)

step : (test : ℕ → Bool) (n more : ℕ) (b : Bool) → test n ≡ b → (test n ≡ false → IsLeast test (n + 1) more (least_from test (n + 1) more))
    → IsLeast test n (suc more) (or_next b n (λ m. least_from test m more))
step test n more true e go = record { low = omega arith; high = omega arith; passes = e; below = λ j a b. absurd (omega (arith, a, b)) }
step test n more false e go =
    let l = go e in
    let low = l.low in
    let high = l.high in
    record {
      low = omega (arith, low);
      high = omega (arith, high);
      passes = l.passes;
      below = first_and_rest (λ m. test m ≡ false) n (least_from test (n + 1) more) e l.below;
    }

-- where one of the numbers passes, the least that does is found
pub least_is : (test : ℕ → Bool) (n more : ℕ) → test (n + more) ≡ true → IsLeast test n more (least_from test n more)
least_is test n zero e =
    let here : n + 0 ≡ n = omega arith in
    record { low = omega arith; high = omega arith; passes = subst (λ m. test m ≡ true) here e; below = λ j a b. absurd (omega (arith, a, b)) }
least_is test n (suc more) e =
    let next : n + suc more ≡ (n + 1) + more = omega arith in
    step test n more (test n) refl (λ no. least_is test (n + 1) more (subst (λ m. test m ≡ true) next e))

-- ---- powers of two

pub below_own_power : (n : ℕ) → n < 2 ^ n
below_own_power zero = omega arith
below_own_power (suc n) = let twice = two-pow-succ n in let less = below_own_power n in omega (arith, twice, less)

pub below_next_power : (n : ℕ) → n < 2 ^ (0 + n + 1)
below_next_power n =
    let next : 0 + n + 1 ≡ suc n = omega arith in
    let twice = two-pow-succ n in
    let less = below_own_power n in
    subst (λ m. n < 2 ^ m) (sym next) (omega (arith, twice, less))

pub log2_least : (n : ℕ) → IsLeast (λ e. nat_lt n (2 ^ (e + 1))) 0 n (log2 n)
log2_least n = least_is (λ e. nat_lt n (2 ^ (e + 1))) 0 n (lt-ltb n (2 ^ (0 + n + 1)) (below_next_power n))

pub log2_above : (n : ℕ) → n < 2 ^ (log2 n + 1)
log2_above n = ltb-true n (2 ^ (log2 n + 1)) (log2_least n).passes

at_most : (n e : ℕ) → 1 ≤ n → ((j : ℕ) → 0 ≤ j → j < e → nat_lt n (2 ^ (j + 1)) ≡ false) → 2 ^ e ≤ n
at_most n zero some below = some
at_most n (suc e) some below =
    let next : e + 1 ≡ suc e = omega arith in
    subst (λ m. 2 ^ m ≤ n) next (ltb-false n (2 ^ (e + 1)) (below e (omega arith) (omega arith)))

pub log2_below : (n : ℕ) → 1 ≤ n → 2 ^ log2 n ≤ n
log2_below n some = at_most n (log2 n) some (log2_least n).below

pub next_power : (e : ℕ) → 2 ^ (e + 1) ≡ 2 ^ e + 2 ^ e
next_power e = let next : e + 1 ≡ suc e = omega arith in ap (λ n. 2 ^ n) next ∙ two-pow-succ e

-- the exponent is the one with the number between its power and the next
pub log2_is : (n e : ℕ) → 1 ≤ n → 2 ^ e ≤ n → n < 2 ^ (e + 1) → log2 n ≡ e
log2_is n e some low high =
    let below = log2_below n some in
    let above = log2_above n in
    ⊎_elim (λ (same : log2 n ≡ e). same)
    (λ apart. ⊎_elim
    (λ (l : log2 n < e). absurd (let more : 2 ^ (log2 n + 1) ≤ 2 ^ e = pow_mono (omega arith) in omega (arith, more, low, above)))
    (λ (l : e < log2 n). absurd (let more : 2 ^ (e + 1) ≤ 2 ^ log2 n = pow_mono (omega arith) in omega (arith, more, high, below))) apart)
    (cases_order (log2 n) e)

pub log2_power : (e : ℕ) → log2 (2 ^ e) ≡ e
log2_power e =
    let positive = pow_pos e in
    let next = next_power e in
    log2_is (2 ^ e) e (omega (arith, positive)) (omega arith) (omega (arith, positive, next))
