-- Lemmas: the least block with room for a payload.
use Rattle.std.proofs.Common.{◌≡◌, ◌≤◌, ◌<◌, ⊎_elim, ℕ, ◌+◌, ◌*◌, ◌^◌, true, false, sym, subst, arith}
use Rattle.std.specs.Prelude.{nat_le}
use Rattle.std.proofs.Math.Nat.{mul-le-mul_left}
use Rattle.std.proofs.Math.Pow.{pow_mono}
use Rattle.std.proofs.lemmas.Bool.{cases_lt, le-leb, leb-true, leb-false, ltb-true, ltb-false}
use Rattle.space_model.specs.Sizes.{unit_size, head_size}
use Rattle.space_model.specs.Ledger.{exponent, is_too_large}
use Rattle.space_model.proofs.Minima.{IsLeast, least_is, below_own_power}

least_room : (bytes : ℕ) → IsLeast (λ exp. nat_le (head_size + bytes) (unit_size * 2 ^ exp)) 0 bytes (exponent bytes)
least_room bytes =
    let last : 0 + bytes ≡ bytes = omega arith in
    let less = below_own_power bytes in
    least_is (λ exp. nat_le (head_size + bytes) (unit_size * 2 ^ exp)) 0 bytes
    (le-leb (head_size + bytes) (unit_size * 2 ^ (0 + bytes)) (subst (λ n. head_size + bytes ≤ unit_size * 2 ^ n) (sym last) (omega (arith, less))))

pub has_room : (bytes : ℕ) → head_size + bytes ≤ unit_size * 2 ^ exponent bytes
has_room bytes = leb-true (head_size + bytes) (unit_size * 2 ^ exponent bytes) (least_room bytes).passes

pub no_room_below : (bytes exp : ℕ) → exp < exponent bytes → unit_size * 2 ^ exp < head_size + bytes
no_room_below bytes exp l = leb-false (head_size + bytes) (unit_size * 2 ^ exp) ((least_room bytes).below exp (omega arith) l)

pub fits_segment : (largest bytes : ℕ) → is_too_large (2 ^ largest) bytes ≡ false → exponent bytes ≤ largest
fits_segment largest bytes e = ⊎_elim
    (λ (l : largest < exponent bytes). absurd (let fits = ltb-false (unit_size * 2 ^ largest) (head_size + bytes) e in
    let no = no_room_below bytes largest l in omega (arith, fits, no)))
    (λ (l : exponent bytes ≤ largest). l) (cases_lt largest (exponent bytes))

pub too_large : (largest bytes : ℕ) → is_too_large (2 ^ largest) bytes ≡ true → largest < exponent bytes
too_large largest bytes e = ⊎_elim
    (λ (l : largest < exponent bytes). l)
    (λ (l : exponent bytes ≤ largest). absurd (
    let large = ltb-true (unit_size * 2 ^ largest) (head_size + bytes) e in
    let room = has_room bytes in
    let more : 2 ^ exponent bytes ≤ 2 ^ largest = pow_mono l in
    let all : unit_size * 2 ^ exponent bytes ≤ unit_size * 2 ^ largest = mul-le-mul_left unit_size more in
    omega (arith, large, room, all)))
    (cases_lt largest (exponent bytes))
