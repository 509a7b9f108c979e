-- Lemmas: a slot is one of the slots, and one more slot splits one slot.
use Rattle.std.proofs.Common.{◌≡◌, ◌≤◌, ◌<◌, ◌⊎◌, inl, inr, ⊎_elim, ℕ, zero, suc, ◌+◌, ◌-◌, ◌*◌, ◌/◌, ◌%◌, ◌^◌, cond, refl, sym, ap, ◌∙◌, subst, arith}
use Rattle.std.specs.Prelude.{nat_lt}
use Rattle.std.proofs.lemmas.Nat.{pow_pos, mod_below, mod-pow-add}
use Rattle.std.proofs.lemmas.Bool.{cases_lt, cases_order, lt-ltb, le-ltb}
use Rattle.space_model.specs.Least.{log2}
use Rattle.space_model.specs.Slots.{slot_of}
use Rattle.space_model.proofs.Minima.{next_power, log2_above, log2_below, log2_is}

-- ---- the low digits of a hash

-- a hash modulo a power of two, from that modulo the next one
pub record Halves (hash e : ℕ) : Type 0 where
  pub low : hash % 2 ^ (e + 1) < 2 ^ e → hash % 2 ^ e ≡ hash % 2 ^ (e + 1)
  pub high : 2 ^ e ≤ hash % 2 ^ (e + 1) → hash % 2 ^ e ≡ hash % 2 ^ (e + 1) - 2 ^ e

by_digit : (digit power rest whole : ℕ) → digit < 2 → whole ≡ digit * power + rest → rest < power
    → (whole < power → rest ≡ whole) × (power ≤ whole → rest ≡ whole - power)
by_digit zero power rest whole d is l = (λ (a : whole < power). omega (arith, is), λ (a : power ≤ whole). absurd (omega (arith, is, a, l)))
by_digit (suc zero) power rest whole d is l = (λ (a : whole < power). absurd (omega (arith, is, a)), λ (a : power ≤ whole). omega (arith, is))
by_digit (suc (suc n)) power rest whole d is l = absurd (omega (arith, d))

halves : (hash e : ℕ) → Halves hash e
halves hash e =
    let next : e + 1 ≡ 1 + e = omega arith in
    let two : 2 ^ 1 ≡ 2 = refl in
    let parts : hash % 2 ^ (e + 1) ≡ (hash / 2 ^ e % 2 ^ 1) * 2 ^ e + hash % 2 ^ e = ap (λ n. hash % 2 ^ n) next ∙ mod-pow-add hash 1 e in
    let d : hash / 2 ^ e % 2 ^ 1 < 2 = mod_below (hash / 2 ^ e) 2 (omega arith) in
    let h = by_digit (hash / 2 ^ e % 2 ^ 1) (2 ^ e) (hash % 2 ^ e) (hash % 2 ^ (e + 1)) d parts (mod_below hash (2 ^ e) (pow_pos e)) in
    record { low = h.0; high = h.1 }

-- ---- slots

chosen_low : (x slots other : ℕ) → x < slots → cond (nat_lt x slots) x other ≡ x
chosen_low x slots other l = ap (λ b. cond b x other) (lt-ltb x slots l)

chosen_high : (x slots other : ℕ) → slots ≤ x → cond (nat_lt x slots) x other ≡ other
chosen_high x slots other l = ap (λ b. cond b x other) (le-ltb x slots l)

pub slot_below : (hash slots : ℕ) → 1 ≤ slots → slot_of hash slots < slots
slot_below hash slots some =
    let b = log2 slots in
    let x = hash % 2 ^ (b + 1) in
    let least = log2_below slots some in
    let less = mod_below hash (2 ^ b) (pow_pos b) in
    ⊎_elim
    (λ (l : hash % 2 ^ (log2 slots + 1) < slots).
    subst (λ n. n < slots) (sym (chosen_low (hash % 2 ^ (log2 slots + 1)) slots (hash % 2 ^ log2 slots) l)) l)
    (λ (l : slots ≤ hash % 2 ^ (log2 slots + 1)).
    subst (λ n. n < slots) (sym (chosen_high (hash % 2 ^ (log2 slots + 1)) slots (hash % 2 ^ log2 slots) l)) (omega (arith, least, less)))
    (cases_lt (hash % 2 ^ (log2 slots + 1)) slots)

same_cond : (x slots other : ℕ) → (x < slots) ⊎ (slots < x) → cond (nat_lt x (slots + 1)) x other ≡ cond (nat_lt x slots) x other
same_cond x slots other apart = ⊎_elim
    (λ (l : x < slots). chosen_low x (slots + 1) other (omega arith) ∙ sym (chosen_low x slots other l))
    (λ (l : slots < x). chosen_high x (slots + 1) other (omega arith) ∙ sym (chosen_high x slots other (omega arith))) apart

-- the powers of two stay the same
grown_within : (hash slots : ℕ) → 1 ≤ slots → slots + 1 < 2 ^ (log2 slots + 1)
    → (slot_of hash (slots + 1) ≡ slot_of hash slots) ⊎ ((slot_of hash (slots + 1) ≡ slots) × (slot_of hash slots ≡ slots - 2 ^ log2 slots))
grown_within hash slots some within =
    let least = log2_below slots some in
    let same : log2 (slots + 1) ≡ log2 slots = log2_is (slots + 1) (log2 slots) (omega arith) (omega (arith, least)) within in
    let slot : slot_of hash (slots + 1) ≡ cond (nat_lt (hash % 2 ^ (log2 slots + 1)) (slots + 1)) (hash % 2 ^ (log2 slots + 1)) (hash % 2 ^ log2 slots) =
    ap (λ b. cond (nat_lt (hash % 2 ^ (b + 1)) (slots + 1)) (hash % 2 ^ (b + 1)) (hash % 2 ^ b)) same in
    ⊎_elim
    (λ (here : hash % 2 ^ (log2 slots + 1) ≡ slots). inr (
      slot ∙ chosen_low (hash % 2 ^ (log2 slots + 1)) (slots + 1) (hash % 2 ^ log2 slots) (omega (arith, here)) ∙ here,
      chosen_high (hash % 2 ^ (log2 slots + 1)) slots (hash % 2 ^ log2 slots) (omega (arith, here))
          ∙ (halves hash (log2 slots)).high (omega (arith, here, least)) ∙ ap (λ n. n - 2 ^ log2 slots) here,
    ))
    (λ apart. inl (slot ∙ same_cond (hash % 2 ^ (log2 slots + 1)) slots (hash % 2 ^ log2 slots) apart))
    (cases_order (hash % 2 ^ (log2 slots + 1)) slots)

-- the new number of slots is a power of two
grown_to_power : (hash slots : ℕ) → 1 ≤ slots → slots + 1 ≡ 2 ^ (log2 slots + 1)
    → (slot_of hash (slots + 1) ≡ slot_of hash slots) ⊎ ((slot_of hash (slots + 1) ≡ slots) × (slot_of hash slots ≡ slots - 2 ^ log2 slots))
grown_to_power hash slots some power =
    let b = log2 slots in
    let least = log2_below slots some in
    let twice = next_power (log2 slots + 1) in
    let positive = pow_pos (log2 slots) in
    let next : log2 (slots + 1) ≡ log2 slots + 1 = log2_is (slots + 1) (log2 slots + 1) (omega arith) (omega (arith, power)) (omega (arith, power, twice)) in
    let h = halves hash (log2 slots + 1) in
    let less = mod_below hash (2 ^ (log2 slots + 1)) (pow_pos (log2 slots + 1)) in
    let slot : slot_of hash (slots + 1) ≡ hash % 2 ^ (log2 slots + 1) =
    ap (λ c. cond (nat_lt (hash % 2 ^ (c + 1)) (slots + 1)) (hash % 2 ^ (c + 1)) (hash % 2 ^ c)) next
    ∙ ⊎_elim
    (λ (l : hash % 2 ^ (log2 slots + 1 + 1) < slots + 1).
    chosen_low (hash % 2 ^ (log2 slots + 1 + 1)) (slots + 1) (hash % 2 ^ (log2 slots + 1)) l ∙ sym (h.low (omega (arith, l, power))))
    (λ (l : slots + 1 ≤ hash % 2 ^ (log2 slots + 1 + 1)). chosen_high (hash % 2 ^ (log2 slots + 1 + 1)) (slots + 1) (hash % 2 ^ (log2 slots + 1)) l)
    (cases_lt (hash % 2 ^ (log2 slots + 1 + 1)) (slots + 1)) in
    ⊎_elim
    (λ (l : hash % 2 ^ (log2 slots + 1) < slots). inl (slot ∙ sym (chosen_low (hash % 2 ^ (log2 slots + 1)) slots (hash % 2 ^ log2 slots) l)))
    (λ (l : slots ≤ hash % 2 ^ (log2 slots + 1)).
    let here : hash % 2 ^ (log2 slots + 1) ≡ slots = omega (arith, l, less, power) in
    inr (
      slot ∙ here,
      chosen_high (hash % 2 ^ (log2 slots + 1)) slots (hash % 2 ^ log2 slots) l ∙ (halves hash (log2 slots)).high (omega (arith, here, least))
          ∙ ap (λ n. n - 2 ^ log2 slots) here,
    ))
    (cases_lt (hash % 2 ^ (log2 slots + 1)) slots)

-- with one more slot a hash keeps its slot, or comes from the slot that is split into the new one
pub grown : (hash slots : ℕ) → 1 ≤ slots
    → (slot_of hash (slots + 1) ≡ slot_of hash slots) ⊎ ((slot_of hash (slots + 1) ≡ slots) × (slot_of hash slots ≡ slots - 2 ^ log2 slots))
grown hash slots some =
    let above = log2_above slots in
    ⊎_elim
    (λ (same : slots + 1 ≡ 2 ^ (log2 slots + 1)). grown_to_power hash slots some same)
    (λ apart. ⊎_elim
    (λ (l : slots + 1 < 2 ^ (log2 slots + 1)). grown_within hash slots some l)
    (λ (l : 2 ^ (log2 slots + 1) < slots + 1). absurd (omega (arith, l, above))) apart)
    (cases_order (slots + 1) (2 ^ (log2 slots + 1)))
