-- Bit strings by their bytes, and the bits of a number in fewer bits than eight.
use Rattle.std.proofs.Common.{◌≡◌, ℕ, zero, suc, ◌-◌, ◌*◌, ◌/◌, ◌%◌, ◌^◌, ◌<◌, ◌≤◌, List, [], ◌∷◌, ◌++◌, take, drop, flat_map, refl, ap, ◌∙◌, sym}
use Rattle.std.proofs.Common.{append_assoc, arith}
use Rattle.dets_term.specs.BitString.{byte_bits, bits_of}

pub bits_of-whole : (bytes : List ℕ) → bits_of bytes 8 ≡ flat_map byte_bits bytes
bits_of-whole [] = refl
bits_of-whole (x ∷ []) = refl
bits_of-whole (x ∷ y ∷ bytes) = ap (λ bs. byte_bits x ++ bs) (bits_of-whole (y ∷ bytes))

pub bits_of-push : (bytes : List ℕ) (b used : ℕ) → bits_of (bytes ++ b ∷ []) used ≡ flat_map byte_bits bytes ++ take used (byte_bits b)
bits_of-push [] b used = refl
bits_of-push (x ∷ []) b used = refl
bits_of-push (x ∷ y ∷ bytes) b used =
    ap (λ bs. byte_bits x ++ bs) (bits_of-push (y ∷ bytes) b used) ∙ sym (append_assoc (byte_bits x) (flat_map byte_bits (y ∷ bytes)) (take used (byte_bits b)))

-- bits that are moved to the front of a byte
pub moved_bits : (v count : ℕ) → 1 ≤ count → count ≤ 7 → v < 2 ^ count → take count (byte_bits (v * 2 ^ (8 - count) % 256)) ≡ drop (8 - count) (byte_bits v)
moved_bits v zero some few held = absurd (omega arith)
moved_bits v (suc zero) some few held =
    let e0 : v * 2 ^ 7 % 256 / 128 ≡ v = omega arith in
    cc
moved_bits v (suc (suc zero)) some few held =
    let e0 : v * 2 ^ 6 % 256 / 128 ≡ v / 2 = omega arith in
    let e1 : v * 2 ^ 6 % 256 / 64 ≡ v = omega arith in
    cc
moved_bits v (suc (suc (suc zero))) some few held =
    let e0 : v * 2 ^ 5 % 256 / 128 ≡ v / 4 = omega arith in
    let e1 : v * 2 ^ 5 % 256 / 64 ≡ v / 2 = omega arith in
    let e2 : v * 2 ^ 5 % 256 / 32 ≡ v = omega arith in
    cc
moved_bits v (suc (suc (suc (suc zero)))) some few held =
    let e0 : v * 2 ^ 4 % 256 / 128 ≡ v / 8 = omega arith in
    let e1 : v * 2 ^ 4 % 256 / 64 ≡ v / 4 = omega arith in
    let e2 : v * 2 ^ 4 % 256 / 32 ≡ v / 2 = omega arith in
    let e3 : v * 2 ^ 4 % 256 / 16 ≡ v = omega arith in
    cc
moved_bits v (suc (suc (suc (suc (suc zero))))) some few held =
    let e0 : v * 2 ^ 3 % 256 / 128 ≡ v / 16 = omega arith in
    let e1 : v * 2 ^ 3 % 256 / 64 ≡ v / 8 = omega arith in
    let e2 : v * 2 ^ 3 % 256 / 32 ≡ v / 4 = omega arith in
    let e3 : v * 2 ^ 3 % 256 / 16 ≡ v / 2 = omega arith in
    let e4 : v * 2 ^ 3 % 256 / 8 ≡ v = omega arith in
    cc
moved_bits v (suc (suc (suc (suc (suc (suc zero)))))) some few held =
    let e0 : v * 2 ^ 2 % 256 / 128 ≡ v / 32 = omega arith in
    let e1 : v * 2 ^ 2 % 256 / 64 ≡ v / 16 = omega arith in
    let e2 : v * 2 ^ 2 % 256 / 32 ≡ v / 8 = omega arith in
    let e3 : v * 2 ^ 2 % 256 / 16 ≡ v / 4 = omega arith in
    let e4 : v * 2 ^ 2 % 256 / 8 ≡ v / 2 = omega arith in
    let e5 : v * 2 ^ 2 % 256 / 4 ≡ v = omega arith in
    cc
moved_bits v (suc (suc (suc (suc (suc (suc (suc zero))))))) some few held =
    let e0 : v * 2 ^ 1 % 256 / 128 ≡ v / 64 = omega arith in
    let e1 : v * 2 ^ 1 % 256 / 64 ≡ v / 32 = omega arith in
    let e2 : v * 2 ^ 1 % 256 / 32 ≡ v / 16 = omega arith in
    let e3 : v * 2 ^ 1 % 256 / 16 ≡ v / 8 = omega arith in
    let e4 : v * 2 ^ 1 % 256 / 8 ≡ v / 4 = omega arith in
    let e5 : v * 2 ^ 1 % 256 / 4 ≡ v / 2 = omega arith in
    let e6 : v * 2 ^ 1 % 256 / 2 ≡ v = omega arith in
    cc
moved_bits v (suc (suc (suc (suc (suc (suc (suc (suc more)))))))) some few held = absurd (omega arith)
