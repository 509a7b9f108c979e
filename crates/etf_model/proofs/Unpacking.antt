-- The bits of packed bytes are those that were packed.
use Rattle.std.proofs.Common.{◌≡◌, ℕ, ◌+◌, ◌*◌, ◌%◌, ◌<◌, ◌≤◌, ◌&&◌, Bool, true, false, List, [], ◌∷◌, ◌++◌, length, take, refl, ap, ◌∙◌, arith}
use mathlib.Core.Bool.{beq}
use Rattle.std.proofs.lemmas.Bool.{and_parts}
use Rattle.dets_term.specs.BitString.{byte_bits, bits_of}
use Rattle.etf_model.specs.Canonical.{high_bits, packed}

abbrev bits_equal : List Bool → List Bool → Bool
bits_equal [] [] = true
bits_equal [] (b ∷ bs) = false
bits_equal (a ∷ rest) [] = false
bits_equal (a ∷ rest) (b ∷ bs) = beq a b && bits_equal rest bs

same_bit : (a b : Bool) → beq a b ≡ true → a ≡ b
same_bit true true e = refl
same_bit true false e = cc
same_bit false true e = cc
same_bit false false e = refl

same_bits : (xs ys : List Bool) → bits_equal xs ys ≡ true → xs ≡ ys
same_bits [] [] e = refl
same_bits [] (y ∷ ys) e = cc
same_bits (x ∷ xs) [] e = cc
same_bits (x ∷ xs) (y ∷ ys) e =
    let both = and_parts (beq x y) (bits_equal xs ys) e in
    ap (λ b. b ∷ xs) (same_bit x y both.0) ∙ ap (λ bs. y ∷ bs) (same_bits xs ys both.1)

abbrev either_bit : (Bool → Bool) → Bool
either_bit p = p true && p false

either_bit-at : (p : Bool → Bool) → either_bit p ≡ true → (b : Bool) → p b ≡ true
either_bit-at p e true = (and_parts (p true) (p false) e).0
either_bit-at p e false = (and_parts (p true) (p false) e).1

abbrev unpacks : Bool → Bool → Bool → Bool → Bool → Bool → Bool → Bool → Bool
unpacks a b c d e f g h = bits_equal (byte_bits (high_bits 8 (a ∷ b ∷ c ∷ d ∷ e ∷ f ∷ g ∷ h ∷ []))) (a ∷ b ∷ c ∷ d ∷ e ∷ f ∷ g ∷ h ∷ [])

-- one table of all bytes
unpacked : (a b c d e f g h : Bool) → byte_bits (high_bits 8 (a ∷ b ∷ c ∷ d ∷ e ∷ f ∷ g ∷ h ∷ [])) ≡ a ∷ b ∷ c ∷ d ∷ e ∷ f ∷ g ∷ h ∷ []
unpacked a b c d e f g h =
    let p1 = either_bit-at (λ a. either_bit (λ b. either_bit
    (λ c. either_bit (λ d. either_bit (λ e. either_bit (λ f. either_bit (λ g. either_bit (λ h. unpacks a b c d e f g h)))))))) refl a in
    let p2 = either_bit-at (λ b. either_bit (λ c. either_bit
    (λ d. either_bit (λ e. either_bit (λ f. either_bit (λ g. either_bit (λ h. unpacks a b c d e f g h))))))) p1 b in
    let p3 = either_bit-at (λ c. either_bit (λ d. either_bit (λ e. either_bit (λ f. either_bit (λ g. either_bit (λ h. unpacks a b c d e f g h)))))) p2 c in
    let p4 = either_bit-at (λ d. either_bit (λ e. either_bit (λ f. either_bit (λ g. either_bit (λ h. unpacks a b c d e f g h))))) p3 d in
    let p5 = either_bit-at (λ e. either_bit (λ f. either_bit (λ g. either_bit (λ h. unpacks a b c d e f g h)))) p4 e in
    let p6 = either_bit-at (λ f. either_bit (λ g. either_bit (λ h. unpacks a b c d e f g h))) p5 f in
    let p7 = either_bit-at (λ g. either_bit (λ h. unpacks a b c d e f g h)) p6 g in
    let p8 = either_bit-at (λ h. unpacks a b c d e f g h) p7 h in
    same_bits _ _ p8

-- how many bytes there are
pub record PackedSize (bs : List Bool) : Type 0 where
  pub enough : length bs ≤ 8 * length (packed bs)
  pub fewest : 8 * length (packed bs) < length bs + 8

pub packed-size : (bs : List Bool) → PackedSize bs
packed-size [] = record { enough = omega arith; fewest = omega arith }
packed-size (a ∷ []) = record { enough = omega arith; fewest = omega arith }
packed-size (a ∷ b ∷ []) = record { enough = omega arith; fewest = omega arith }
packed-size (a ∷ b ∷ c ∷ []) = record { enough = omega arith; fewest = omega arith }
packed-size (a ∷ b ∷ c ∷ d ∷ []) = record { enough = omega arith; fewest = omega arith }
packed-size (a ∷ b ∷ c ∷ d ∷ e ∷ []) = record { enough = omega arith; fewest = omega arith }
packed-size (a ∷ b ∷ c ∷ d ∷ e ∷ f ∷ []) = record { enough = omega arith; fewest = omega arith }
packed-size (a ∷ b ∷ c ∷ d ∷ e ∷ f ∷ g ∷ []) = record { enough = omega arith; fewest = omega arith }
packed-size (a ∷ b ∷ c ∷ d ∷ e ∷ f ∷ g ∷ h ∷ rest) =
    let r = packed-size rest in
    let enough = r.enough in
    let fewest = r.fewest in
    record { enough = omega arith; fewest = omega arith }

bits_of-more : (x : ℕ) (bytes : List ℕ) (used : ℕ) → 0 < length bytes → bits_of (x ∷ bytes) used ≡ byte_bits x ++ bits_of bytes used
bits_of-more x [] used h = absurd (omega arith)
bits_of-more x (y ∷ bytes) used h = refl

last_bits : (used n : ℕ) (x : ℕ) (bs : List Bool) → used ≡ n → take n (byte_bits x) ≡ bs → take used (byte_bits x) ≡ bs
last_bits used n x bs e h = ap (λ k. take k (byte_bits x)) e ∙ h

pub bits_of-packed : (bs : List Bool) (used : ℕ) → 1 ≤ used → used ≤ 8 → length bs % 8 ≡ used % 8 → bits_of (packed bs) used ≡ bs
bits_of-packed [] used low high m = refl
bits_of-packed (a ∷ []) used low high m = last_bits used 1 _ _ (omega arith) (ap (take 1) (unpacked a false false false false false false false))
bits_of-packed (a ∷ b ∷ []) used low high m = last_bits used 2 _ _ (omega arith) (ap (take 2) (unpacked a b false false false false false false))
bits_of-packed (a ∷ b ∷ c ∷ []) used low high m = last_bits used 3 _ _ (omega arith) (ap (take 3) (unpacked a b c false false false false false))
bits_of-packed (a ∷ b ∷ c ∷ d ∷ []) used low high m = last_bits used 4 _ _ (omega arith) (ap (take 4) (unpacked a b c d false false false false))
bits_of-packed (a ∷ b ∷ c ∷ d ∷ e ∷ []) used low high m = last_bits used 5 _ _ (omega arith) (ap (take 5) (unpacked a b c d e false false false))
bits_of-packed (a ∷ b ∷ c ∷ d ∷ e ∷ f ∷ []) used low high m = last_bits used 6 _ _ (omega arith) (ap (take 6) (unpacked a b c d e f false false))
bits_of-packed (a ∷ b ∷ c ∷ d ∷ e ∷ f ∷ g ∷ []) used low high m = last_bits used 7 _ _ (omega arith) (ap (take 7) (unpacked a b c d e f g false))
bits_of-packed (a ∷ b ∷ c ∷ d ∷ e ∷ f ∷ g ∷ h ∷ []) used low high m = last_bits used 8 _ _ (omega arith) (ap (take 8) (unpacked a b c d e f g h))
bits_of-packed (a ∷ b ∷ c ∷ d ∷ e ∷ f ∷ g ∷ h ∷ r ∷ rest) used low high m =
    let size = (packed-size (r ∷ rest)).enough in
    let more = bits_of-more (high_bits 8 (a ∷ b ∷ c ∷ d ∷ e ∷ f ∷ g ∷ h ∷ [])) (packed (r ∷ rest)) used (omega arith) in
    more
    ∙ ap (λ bs. bs ++ bits_of (packed (r ∷ rest)) used) (unpacked a b c d e f g h)
    ∙ ap (λ bs. a ∷ b ∷ c ∷ d ∷ e ∷ f ∷ g ∷ h ∷ bs) (bits_of-packed (r ∷ rest) used low high (omega arith))
