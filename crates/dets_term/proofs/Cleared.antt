-- Cleared bits of a byte, and of the last byte of some bytes.
use Rattle.std.proofs.Common.{◌≡◌, ℕ, zero, suc, ◌-◌, ◌*◌, ◌/◌, ◌%◌, ◌^◌, ◌<◌, ◌≤◌, List, [], ◌∷◌, ◌++◌, take, set, get_or, length, length-set, refl, ap, ◌∙◌}
use Rattle.std.proofs.Common.{arith}
use Rattle.term_model.specs.BitString.{byte_bits, bits_of, last_byte, MayUse, IsPadded}

-- with its lower bits cleared a byte keeps the bits in front of them
pub front-kept : (count x : ℕ) → x < 256 → 1 ≤ count → count ≤ 8
    → take count (byte_bits (x / 2 ^ (8 - count) * 2 ^ (8 - count) % 256)) ≡ take count (byte_bits x)
front-kept zero x fits some all = absurd (omega arith)
front-kept (suc zero) x fits some all =
    let e1 : x / 128 * 128 % 256 / 128 ≡ x / 128 = omega arith in
    cc
front-kept (suc (suc zero)) x fits some all =
    let e1 : x / 64 * 64 % 256 / 128 ≡ x / 128 = omega arith in
    let e2 : x / 64 * 64 % 256 / 64 ≡ x / 64 = omega arith in
    cc
front-kept (suc (suc (suc zero))) x fits some all =
    let e1 : x / 32 * 32 % 256 / 128 ≡ x / 128 = omega arith in
    let e2 : x / 32 * 32 % 256 / 64 ≡ x / 64 = omega arith in
    let e3 : x / 32 * 32 % 256 / 32 ≡ x / 32 = omega arith in
    cc
front-kept (suc (suc (suc (suc zero)))) x fits some all =
    let e1 : x / 16 * 16 % 256 / 128 ≡ x / 128 = omega arith in
    let e2 : x / 16 * 16 % 256 / 64 ≡ x / 64 = omega arith in
    let e3 : x / 16 * 16 % 256 / 32 ≡ x / 32 = omega arith in
    let e4 : x / 16 * 16 % 256 / 16 ≡ x / 16 = omega arith in
    cc
front-kept (suc (suc (suc (suc (suc zero))))) x fits some all =
    let e1 : x / 8 * 8 % 256 / 128 ≡ x / 128 = omega arith in
    let e2 : x / 8 * 8 % 256 / 64 ≡ x / 64 = omega arith in
    let e3 : x / 8 * 8 % 256 / 32 ≡ x / 32 = omega arith in
    let e4 : x / 8 * 8 % 256 / 16 ≡ x / 16 = omega arith in
    let e5 : x / 8 * 8 % 256 / 8 ≡ x / 8 = omega arith in
    cc
front-kept (suc (suc (suc (suc (suc (suc zero)))))) x fits some all =
    let e1 : x / 4 * 4 % 256 / 128 ≡ x / 128 = omega arith in
    let e2 : x / 4 * 4 % 256 / 64 ≡ x / 64 = omega arith in
    let e3 : x / 4 * 4 % 256 / 32 ≡ x / 32 = omega arith in
    let e4 : x / 4 * 4 % 256 / 16 ≡ x / 16 = omega arith in
    let e5 : x / 4 * 4 % 256 / 8 ≡ x / 8 = omega arith in
    let e6 : x / 4 * 4 % 256 / 4 ≡ x / 4 = omega arith in
    cc
front-kept (suc (suc (suc (suc (suc (suc (suc zero))))))) x fits some all =
    let e1 : x / 2 * 2 % 256 / 128 ≡ x / 128 = omega arith in
    let e2 : x / 2 * 2 % 256 / 64 ≡ x / 64 = omega arith in
    let e3 : x / 2 * 2 % 256 / 32 ≡ x / 32 = omega arith in
    let e4 : x / 2 * 2 % 256 / 16 ≡ x / 16 = omega arith in
    let e5 : x / 2 * 2 % 256 / 8 ≡ x / 8 = omega arith in
    let e6 : x / 2 * 2 % 256 / 4 ≡ x / 4 = omega arith in
    let e7 : x / 2 * 2 % 256 / 2 ≡ x / 2 = omega arith in
    cc
front-kept (suc (suc (suc (suc (suc (suc (suc (suc zero)))))))) x fits some all =
    let e1 : x / 1 * 1 % 256 / 128 ≡ x / 128 = omega arith in
    let e2 : x / 1 * 1 % 256 / 64 ≡ x / 64 = omega arith in
    let e3 : x / 1 * 1 % 256 / 32 ≡ x / 32 = omega arith in
    let e4 : x / 1 * 1 % 256 / 16 ≡ x / 16 = omega arith in
    let e5 : x / 1 * 1 % 256 / 8 ≡ x / 8 = omega arith in
    let e6 : x / 1 * 1 % 256 / 4 ≡ x / 4 = omega arith in
    let e7 : x / 1 * 1 % 256 / 2 ≡ x / 2 = omega arith in
    let e8 : x / 1 * 1 % 256 ≡ x = omega arith in
    cc
front-kept (suc (suc (suc (suc (suc (suc (suc (suc (suc n))))))))) x fits some all = absurd (omega arith)

bits_of-cons : (x : ℕ) (bytes : List ℕ) (used : ℕ) → 0 < length bytes → bits_of (x ∷ bytes) used ≡ byte_bits x ++ bits_of bytes used
bits_of-cons x [] used some = absurd (omega arith)
bits_of-cons x (y ∷ bytes) used some = refl

last_byte-cons : (x : ℕ) (bytes : List ℕ) → 0 < length bytes → last_byte (x ∷ bytes) ≡ last_byte bytes
last_byte-cons x [] some = absurd (omega arith)
last_byte-cons x (y ∷ bytes) some = refl

-- a last byte that begins alike gives the same bits
pub bits_of-set : (bytes : List ℕ) (place x y used : ℕ) → suc place ≡ length bytes → x ≡ get_or bytes place x
    → take used (byte_bits y) ≡ take used (byte_bits x) → bits_of (set bytes place y) used ≡ bits_of bytes used
bits_of-set [] place x y used e at same = absurd (omega arith)
bits_of-set (z ∷ []) zero x y used e at same = same ∙ ap (λ b. take used (byte_bits b)) at
bits_of-set (z ∷ []) (suc place) x y used e at same = absurd (omega arith)
bits_of-set (z ∷ w ∷ bytes) zero x y used e at same = absurd (omega arith)
bits_of-set (z ∷ w ∷ bytes) (suc place) x y used e at same =
    bits_of-cons z (set (w ∷ bytes) place y) used (omega (arith, length-set (w ∷ bytes) place y))
    ∙ ap (λ bs. byte_bits z ++ bs) (bits_of-set (w ∷ bytes) place x y used (omega arith) at same)

pub last_byte-set : (bytes : List ℕ) (place y : ℕ) → suc place ≡ length bytes → last_byte (set bytes place y) ≡ y
last_byte-set [] place y e = absurd (omega arith)
last_byte-set (z ∷ []) zero y e = refl
last_byte-set (z ∷ []) (suc place) y e = absurd (omega arith)
last_byte-set (z ∷ w ∷ bytes) zero y e = absurd (omega arith)
last_byte-set (z ∷ w ∷ bytes) (suc place) y e =
    last_byte-cons z (set (w ∷ bytes) place y) (omega (arith, length-set (w ∷ bytes) place y)) ∙ last_byte-set (w ∷ bytes) place y (omega arith)

-- and one with zeros at its end leaves the unused bits zero
pub IsPadded-set : (bytes : List ℕ) (place y used : ℕ) → suc place ≡ length bytes → MayUse bytes used → y % 2 ^ (8 - used) ≡ 0
    → IsPadded (set bytes place y) used
IsPadded-set bytes place y used e may zeros = record {
  used = (may.0, may.1, λ none. absurd (let n : length (set bytes place y) ≡ 0 = ap length none in omega (arith, length-set bytes place y)));
  zeros = rw (last_byte-set bytes place y e) zeros;
}
