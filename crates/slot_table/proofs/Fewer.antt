-- The slot of a hash among fewer slots, from that among more.
use Rattle.std.proofs.Common.{◌≡◌, ◌≤◌, ◌<◌, ⊎_elim, ℕ, zero, suc, ◌+◌, ◌-◌, ◌%◌, ◌^◌, cond, sym, ap, ◌∙◌, subst, arith}
use Rattle.std.specs.Prelude.{nat_lt}
use Rattle.std.proofs.lemmas.Bool.{lt-ltb}
use Rattle.std.proofs.Math.Nat.{mod-eq_of_lt}
use Rattle.space_model.specs.Least.{log2}
use Rattle.space_model.specs.Slots.{slot_of}
use Rattle.space_model.proofs.Minima.{log2_above}
use Rattle.space_model.proofs.Splits.{slot_below, grown}

-- a number below the number of slots is its own slot
pub own_slot : (t m : ℕ) → t < m → slot_of t m ≡ t
own_slot t m l =
    let above = log2_above m in
    let small : t % 2 ^ (log2 m + 1) ≡ t = mod-eq_of_lt (omega (arith, above)) in
    ap (λ x. cond (nat_lt x m) x (t % 2 ^ log2 m)) small ∙ ap (λ b. cond b t (t % 2 ^ log2 m)) (lt-ltb t m l)

-- the slot that is split into the next one
split_slot : (m : ℕ) → 1 ≤ m → slot_of m m ≡ m - 2 ^ log2 m
split_slot m some =
    let self : slot_of m (m + 1) ≡ m = own_slot m (m + 1) (omega arith) in
    let below = slot_below m m some in
    ⊎_elim
    (λ (stays : slot_of m (m + 1) ≡ slot_of m m). absurd (omega (arith, stays, self, below)))
    (λ (moves : (slot_of m (m + 1) ≡ m) × (slot_of m m ≡ m - 2 ^ log2 m)). moves.1)
    (grown m m some)

abbrev FewerFrom : ℕ → ℕ → Type 0
FewerFrom m n = (h : ℕ) → slot_of (slot_of h n) m ≡ slot_of h m

fewer_one : (m n : ℕ) → 1 ≤ n → FewerFrom m n → FewerFrom m (n + 1)
fewer_one m n some before h = ⊎_elim
    (λ (stays : slot_of h (n + 1) ≡ slot_of h n). ap (λ s. slot_of s m) stays ∙ before h)
    (λ (moves : (slot_of h (n + 1) ≡ n) × (slot_of h n ≡ n - 2 ^ log2 n)).
    ap (λ s. slot_of s m) moves.0 ∙ sym (before n) ∙ ap (λ s. slot_of s m) (split_slot n some ∙ sym moves.1) ∙ before h)
    (grown h n some)

fewer_more : (m k : ℕ) → 1 ≤ m → FewerFrom m (m + k)
fewer_more m zero some h =
    let none : m ≡ m + 0 = omega arith in
    subst (λ n. slot_of (slot_of h n) m ≡ slot_of h m) none (own_slot (slot_of h m) m (slot_below h m some))
fewer_more m (suc k) some h =
    let next : m + suc k ≡ m + k + 1 = omega arith in
    subst (λ n. slot_of (slot_of h n) m ≡ slot_of h m) (sym next) (fewer_one m (m + k) (omega arith) (fewer_more m k some) h)

pub fewer : (h m n : ℕ) → 1 ≤ m → m ≤ n → slot_of (slot_of h n) m ≡ slot_of h m
fewer h m n some l =
    let sum : m + (n - m) ≡ n = omega arith in
    subst (λ x. slot_of (slot_of h x) m ≡ slot_of h m) sum (fewer_more m (n - m) some h)
