-- Bits packed into bytes are the bytes that they came from, where their unused bits are zero.
use Rattle.std.proofs.Common.{◌≡◌, ℕ, zero, suc, ◌+◌, ◌-◌, ◌*◌, ◌%◌, ◌^◌, ◌<◌, ◌≤◌, ◌||◌, ◌==◌, Bool, true, not, List, [], ◌∷◌, ◌++◌, length, take, get_or}
use Rattle.std.proofs.Common.{refl, sym, ap, ◌∙◌, arith}
use Rattle.std.proofs.lemmas.Bool.{agree_below_at, eqb-true, eq-eqb, ne_eqb, not_from_true, cond-true, cond-false}
use Rattle.std.proofs.lemmas.List.{length-append}
use Rattle.dets_term.specs.BitString.{byte_bits, bits_of, last_byte, IsPadded}
use Rattle.etf_model.specs.declared.tags.TheConstants.{BINARY, BIT_BINARY}
use Rattle.etf_model.specs.Canonical.{high_bits, packed, head, bits_spelling}

-- a byte is its first bits, where the others are zero
abbrev restores : ℕ → ℕ → Bool
restores used x = not (x % 2 ^ (8 - used) == 0) || (high_bits 8 (take used (byte_bits x)) == x)

restored : (used x : ℕ) → restores used x ≡ true → x % 2 ^ (8 - used) ≡ 0 → high_bits 8 (take used (byte_bits x)) ≡ x
restored used x h z =
    let e : (not (x % 2 ^ (8 - used) == 0) || (high_bits 8 (take used (byte_bits x)) == x)) ≡ (high_bits 8 (take used (byte_bits x)) == x) =
    ap (λ b. b || (high_bits 8 (take used (byte_bits x)) == x)) (not_from_true _ (eq-eqb _ 0 z)) in
    eqb-true _ _ (sym e ∙ h)

-- one table of all bytes for each number of used bits
padded_byte : (used x : ℕ) → 1 ≤ used → used ≤ 8 → x < 256 → x % 2 ^ (8 - used) ≡ 0 → high_bits 8 (take used (byte_bits x)) ≡ x
padded_byte zero x low high fits z = absurd (omega arith)
padded_byte (suc zero) x low high fits z = restored 1 x (agree_below_at (restores 1) (λ _. true) 256 x refl fits) z
padded_byte (suc (suc zero)) x low high fits z = restored 2 x (agree_below_at (restores 2) (λ _. true) 256 x refl fits) z
padded_byte (suc (suc (suc zero))) x low high fits z = restored 3 x (agree_below_at (restores 3) (λ _. true) 256 x refl fits) z
padded_byte (suc (suc (suc (suc zero)))) x low high fits z = restored 4 x (agree_below_at (restores 4) (λ _. true) 256 x refl fits) z
padded_byte (suc (suc (suc (suc (suc zero))))) x low high fits z = restored 5 x (agree_below_at (restores 5) (λ _. true) 256 x refl fits) z
padded_byte (suc (suc (suc (suc (suc (suc zero)))))) x low high fits z = restored 6 x (agree_below_at (restores 6) (λ _. true) 256 x refl fits) z
padded_byte (suc (suc (suc (suc (suc (suc (suc zero))))))) x low high fits z = restored 7 x (agree_below_at (restores 7) (λ _. true) 256 x refl fits) z
padded_byte (suc (suc (suc (suc (suc (suc (suc (suc zero)))))))) x low high fits z = restored 8 x (agree_below_at (restores 8) (λ _. true) 256 x refl fits) z
padded_byte (suc (suc (suc (suc (suc (suc (suc (suc (suc n))))))))) x low high fits z = absurd (omega arith)

whole_byte : (x : ℕ) → x < 256 → high_bits 8 (byte_bits x) ≡ x
whole_byte x fits = padded_byte 8 x (omega arith) (omega arith) fits (omega arith)

packed-one : (used x : ℕ) → 1 ≤ used → used ≤ 8 → packed (take used (byte_bits x)) ≡ high_bits 8 (take used (byte_bits x)) ∷ []
packed-one zero x low high = absurd (omega arith)
packed-one (suc zero) x low high = refl
packed-one (suc (suc zero)) x low high = refl
packed-one (suc (suc (suc zero))) x low high = refl
packed-one (suc (suc (suc (suc zero)))) x low high = refl
packed-one (suc (suc (suc (suc (suc zero))))) x low high = refl
packed-one (suc (suc (suc (suc (suc (suc zero)))))) x low high = refl
packed-one (suc (suc (suc (suc (suc (suc (suc zero))))))) x low high = refl
packed-one (suc (suc (suc (suc (suc (suc (suc (suc zero)))))))) x low high = refl
packed-one (suc (suc (suc (suc (suc (suc (suc (suc (suc n))))))))) x low high = absurd (omega arith)

length-first_bits : (used x : ℕ) → used ≤ 8 → length (take used (byte_bits x)) ≡ used
length-first_bits zero x high = refl
length-first_bits (suc zero) x high = refl
length-first_bits (suc (suc zero)) x high = refl
length-first_bits (suc (suc (suc zero))) x high = refl
length-first_bits (suc (suc (suc (suc zero)))) x high = refl
length-first_bits (suc (suc (suc (suc (suc zero))))) x high = refl
length-first_bits (suc (suc (suc (suc (suc (suc zero)))))) x high = refl
length-first_bits (suc (suc (suc (suc (suc (suc (suc zero))))))) x high = refl
length-first_bits (suc (suc (suc (suc (suc (suc (suc (suc zero)))))))) x high = refl
length-first_bits (suc (suc (suc (suc (suc (suc (suc (suc (suc n))))))))) x high = absurd (omega arith)

pub packed-bits_of : (bytes : List ℕ) (used : ℕ) → ((i : ℕ) → get_or bytes i 0 < 256) → 1 ≤ used → used ≤ 8 → last_byte bytes % 2 ^ (8 - used) ≡ 0
    → packed (bits_of bytes used) ≡ bytes
packed-bits_of [] used fits low high z = refl
packed-bits_of (x ∷ []) used fits low high z = packed-one used x low high ∙ ap (λ b. b ∷ []) (padded_byte used x low high (fits 0) z)
packed-bits_of (x ∷ y ∷ bytes) used fits low high z =
    ap (λ b. b ∷ packed (bits_of (y ∷ bytes) used)) (whole_byte x (fits 0))
    ∙ ap (λ rest. x ∷ rest) (packed-bits_of (y ∷ bytes) used (λ i. fits (suc i)) low high z)

-- how many bits there are
pub length-bits_of : (x : ℕ) (bytes : List ℕ) (used : ℕ) → used ≤ 8 → length (bits_of (x ∷ bytes) used) ≡ 8 * length bytes + used
length-bits_of x [] used high = let e = length-first_bits used x high in omega arith
length-bits_of x (y ∷ bytes) used high =
    let rest = length-bits_of y bytes used high in
    let whole : length (bits_of (x ∷ y ∷ bytes) used) ≡ 8 + length (bits_of (y ∷ bytes) used) = length-append (byte_bits x) (bits_of (y ∷ bytes) used) in
    omega arith

-- so many bytes hold them
pub length-bytes-le : (bytes : List ℕ) (used n : ℕ) → 1 ≤ used → used ≤ 8 → length (bits_of bytes used) ≤ 8 * n → length bytes ≤ n
length-bytes-le [] used n low high h = omega arith
length-bytes-le (x ∷ bytes) used n low high h = let e = length-bits_of x bytes used high in omega arith

-- the used bits of the last byte
pub used-bits_of : (bytes : List ℕ) (used : ℕ) → 1 ≤ used → used < 8 → (bytes ≡ [] → used ≡ 8) → length (bits_of bytes used) % 8 ≡ used
used-bits_of [] used low high some = absurd (let e = some refl in omega arith)
used-bits_of (x ∷ bytes) used low high some = let e = length-bits_of x bytes used (omega arith) in omega arith

pub whole-bits_of : (bytes : List ℕ) → length (bits_of bytes 8) % 8 ≡ 0
whole-bits_of [] = omega arith
whole-bits_of (x ∷ bytes) = let e = length-bits_of x bytes 8 (omega arith) in omega arith

-- ---- the spelling of padded bytes

pub bits_spelling-whole : (bytes : List ℕ) (used : ℕ) → used ≡ 8 → ((i : ℕ) → get_or bytes i 0 < 256) → IsPadded bytes used
    → bits_spelling (bits_of bytes used) ≡ head BINARY 4 (length bytes) ++ bytes
bits_spelling-whole bytes used e fits padded =
    let same = packed-bits_of bytes used fits padded.used.0 padded.used.1 padded.zeros in
    let whole : length (bits_of bytes used) % 8 ≡ 0 = ap (λ n. length (bits_of bytes n) % 8) e ∙ whole-bits_of bytes in
    cond-true (length (bits_of bytes used) % 8 == 0) _ _ (eq-eqb _ 0 whole)
    ∙ ap (λ bs. head BINARY 4 (length bs) ++ bs) same

pub bits_spelling-padded : (bytes : List ℕ) (used : ℕ) → (used ≡ 8 → ⊥) → ((i : ℕ) → get_or bytes i 0 < 256) → IsPadded bytes used
    → bits_spelling (bits_of bytes used) ≡ head BIT_BINARY 4 (length bytes) ++ (used ∷ bytes)
bits_spelling-padded bytes used ne fits padded =
    let low = padded.used.0 in
    let high = padded.used.1 in
    let same = packed-bits_of bytes used fits low high padded.zeros in
    let some = used-bits_of bytes used low (omega arith) padded.used.2 in
    cond-false (length (bits_of bytes used) % 8 == 0) _ _ (ne_eqb _ 0 (λ z. omega arith))
    ∙ ap (λ n. head BIT_BINARY 4 (length (packed (bits_of bytes used))) ++ (n ∷ packed (bits_of bytes used))) some
    ∙ ap (λ bs. head BIT_BINARY 4 (length bs) ++ (used ∷ bs)) same
