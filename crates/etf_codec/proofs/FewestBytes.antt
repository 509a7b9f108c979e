-- The fewest bytes of a magnitude: how many they are, and that they stand in front of all its bytes.
use Rattle.std.proofs.Common.{◌≡◌, ℕ, zero, suc, ◌+◌, ◌-◌, ◌*◌, ◌/◌, ◌%◌, ◌^◌, ◌<◌, ◌≤◌, ⊎_elim, ◌∷◌, length, take, refl, sym, ap, ◌∙◌, subst, arith}
use Rattle.std.proofs.Math.Nat.{div-div-eq-div-mul, pow-succ', pow-le-pow_right, one-le-pow}
use lib.Pow.{pow-add}
use Rattle.std.proofs.lemmas.Bool.{cases_eq, cases_lt}
use Rattle.std.proofs.lemmas.Nat.{leading_top}
use Rattle.std.specs.Int.{bytes_low_first, div_ceil}
use Rattle.std.specs.Int.Count.{count_leading_zeros, leading_of_zero}
use Rattle.etf_model.specs.Canonical.{low_bytes, magnitude_bytes}
use Rattle.etf_model.specs.CanonicalWholes.{low_bytes-more}

-- so many bytes hold the magnitude, and no fewer do
pub record IsSize (m n : ℕ) : Type 0 where
  pub below : m < 256 ^ n
  pub fewest : (k : ℕ) → n ≡ suc k → 256 ^ k ≤ m

IsSize-more : (m n : ℕ) → 0 < m → IsSize (m / 256) n → IsSize m (suc n)
IsSize-more m zero h s =
    let b : m / 256 < 1 = s.below in
    record { below = omega arith; fewest = λ k e. let z : k ≡ 0 = omega arith in subst (λ (j : ℕ). 256 ^ j ≤ m) (sym z) (omega arith) }
IsSize-more m (suc n) h s =
    let lower = s.fewest n refl in
    let below = s.below in
    let grown = pow-succ' 256 (suc n) in
    let same = pow-succ' 256 n in
    record {
      below = omega arith;
      fewest = λ k e. let z : k ≡ suc n = omega arith in subst (λ (j : ℕ). 256 ^ j ≤ m) (sym z) (omega arith);
    }

pub low_bytes-size : (most m : ℕ) → m < 256 ^ most → IsSize m (length (low_bytes most m))
low_bytes-size zero m h = record { below = h; fewest = λ k e. absurd (omega arith) }
low_bytes-size (suc most) m h =
    ⊎_elim (λ z.
    let none : length (low_bytes (suc most) m) ≡ 0 = ap (λ x. length (low_bytes (suc most) x)) z in
    record { below = subst (λ (n : ℕ). m < 256 ^ n) (sym none) (omega arith); fewest = λ k e. absurd (omega arith) })
    (λ z.
    let more : length (low_bytes (suc most) m) ≡ suc (length (low_bytes most (m / 256))) = ap length (low_bytes-more most m (omega arith)) in
    let grown = pow-succ' 256 most in
    subst (λ (n : ℕ). IsSize m n) (sym more) (IsSize-more m _ (omega arith) (low_bytes-size most (m / 256) (omega arith))))
    (cases_eq m 0)

pow-bytes : (n : ℕ) → 256 ^ n ≡ 2 ^ (8 * n)
pow-bytes zero = refl
pow-bytes (suc n) =
    let more : 8 * suc n ≡ 8 * n + 8 = omega arith in
    pow-succ' 256 n ∙ ap (λ (x : ℕ). 256 * x) (pow-bytes n) ∙ (let e = pow-add 2 (8 * n) 8 in rw more (omega arith))

-- a magnitude of so many bits has as many bytes as hold them
IsSize-bits : (m n bits : ℕ) → IsSize m n → 2 ^ bits ≤ m → m < 2 ^ suc bits → n ≡ div_ceil (suc bits) 8
IsSize-bits m zero bits s low high =
    let b : m < 1 = s.below in
    let one = one-le-pow bits 2 (omega arith) in
    absurd (omega arith)
IsSize-bits m (suc n) bits s low high =
    let upper : bits < 8 * suc n =
    ⊎_elim (λ h. h) (λ h. let b = s.below in let e = pow-bytes (suc n) in let p : 2 ^ (8 * suc n) ≤ 2 ^ bits = pow-le-pow_right (omega arith) h in
    absurd (omega arith)) (cases_lt bits (8 * suc n)) in
    let lower : 8 * n < suc bits =
    ⊎_elim (λ h. h) (λ h. let b = s.fewest n refl in let e = pow-bytes n in let p : 2 ^ suc bits ≤ 2 ^ (8 * n) = pow-le-pow_right (omega arith) h in
    absurd (omega arith)) (cases_lt (8 * n) (suc bits)) in
    omega arith

-- the code's count of bytes
pub byte_count-is : (m : ℕ) → m < 2 ^ 128 → div_ceil (128 - count_leading_zeros 128 m) 8 ≡ length (magnitude_bytes m)
unfolding magnitude_bytes
byte_count-is m h =
    ⊎_elim (λ z. subst (λ (x : ℕ). div_ceil (128 - count_leading_zeros 128 x) 8 ≡ length (low_bytes 16 x)) (sym z)
    (ap (λ (x : ℕ). div_ceil (128 - x) 8) (leading_of_zero 128)))
    (λ z.
    let top = leading_top 128 m (omega arith) h in
    let size = low_bytes-size 16 m (omega arith) in
    let bits : 128 - count_leading_zeros 128 m ≡ suc top.0 = omega (arith, top.1) in
    ap (λ (x : ℕ). div_ceil x 8) bits ∙ sym (IsSize-bits m (length (low_bytes 16 m)) top.0 size top.2 top.3))
    (cases_eq m 0)

-- ---- the front of all bytes

-- the bytes of a number from its second one on
bytes-shift : (i k m : ℕ) → bytes_low_first (suc i) k m ≡ bytes_low_first i k (m / 256)
bytes-shift i zero m = refl
bytes-shift zero (suc k) m = ap (λ bytes. m / 256 % 256 ∷ bytes) (bytes-shift 1 k m)
bytes-shift (suc i) (suc k) m =
    let split = div-div-eq-div-mul m 256 (256 ^ suc i) in
    let power = pow-succ' 256 (suc i) in
    let first : m / 256 ^ suc (suc i) ≡ m / 256 / 256 ^ suc i = ap (λ (x : ℕ). m / x) power ∙ sym split in
    ap (λ (x : ℕ). x % 256 ∷ bytes_low_first (suc (suc (suc i))) k m) first
    ∙ ap (λ bytes. m / 256 / 256 ^ suc i % 256 ∷ bytes) (bytes-shift (suc (suc i)) k m)

low_bytes-front : (most m : ℕ) → take (length (low_bytes most m)) (bytes_low_first 0 most m) ≡ low_bytes most m
low_bytes-front zero m = refl
low_bytes-front (suc most) m =
    ⊎_elim (λ z. subst (λ (x : ℕ). take (length (low_bytes (suc most) x)) (bytes_low_first 0 (suc most) x) ≡ low_bytes (suc most) x) (sym z) refl)
    (λ z.
    let more = low_bytes-more most m (omega arith) in
    subst (λ bytes. take (length bytes) (bytes_low_first 0 (suc most) m) ≡ bytes) (sym more)
    (ap (λ bytes. m % 256 ∷ bytes) (ap (take (length (low_bytes most (m / 256)))) (bytes-shift 0 most m) ∙ low_bytes-front most (m / 256))))
    (cases_eq m 0)

-- the code's bytes of a magnitude
pub magnitude_bytes-front : (m : ℕ) → take (length (magnitude_bytes m)) (bytes_low_first 0 16 m) ≡ magnitude_bytes m
unfolding magnitude_bytes
magnitude_bytes-front m = low_bytes-front 16 m
