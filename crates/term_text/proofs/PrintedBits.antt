-- The printed form of a bit string by its bytes.
use Rattle.std.proofs.Common.{◌≡◌, ℕ, zero, suc, ◌+◌, ◌-◌, ◌*◌, ◌/◌, ◌%◌, ◌^◌, ◌<◌, ◌≤◌, Bool, true, false, cond, List, [], ◌∷◌, ◌++◌, map, length}
use Rattle.std.proofs.Common.{get_or, take, flat_map, refl, ap, ◌∙◌, sym, subst, arith}
use Rattle.std.proofs.lemmas.Bool.Decides.{nat_tests}
use Rattle.std.specs.List.{AllByRecursion, join_by}
use Rattle.std.specs.Fmt.{decimal}
use Rattle.dets_term.specs.BitString.{is_odd, byte_bits, bits_of}
use Rattle.text_model.specs.Printed.{number_of, octets, printed_segment}
use Rattle.term_text.proofs.Joined.{joined-last}

-- ---- the bits of a byte by their number

worth : (b : Bool) (w : ℕ) → cond b w 0 ≡ w * cond b 1 0
worth true w = omega arith
worth false w = omega arith

odd_bit : (n : ℕ) → cond (is_odd n) 1 0 ≡ n % 2
odd_bit n = grind (arith, nat_tests)

bit_worth : (n w : ℕ) → cond (is_odd n) w 0 ≡ w * (n % 2)
bit_worth n w = worth (is_odd n) w ∙ ap (λ k. w * k) (odd_bit n)

-- the bytes' halves, one after another
record Halves (x : ℕ) : Type 0 where
  top : x / 128 ≡ x / 128 % 2
  halved-64 : x / 64 ≡ 2 * (x / 128) + x / 64 % 2
  halved-32 : x / 32 ≡ 2 * (x / 64) + x / 32 % 2
  halved-16 : x / 16 ≡ 2 * (x / 32) + x / 16 % 2
  halved-8 : x / 8 ≡ 2 * (x / 16) + x / 8 % 2
  halved-4 : x / 4 ≡ 2 * (x / 8) + x / 4 % 2
  halved-2 : x / 2 ≡ 2 * (x / 4) + x / 2 % 2
  halved : x ≡ 2 * (x / 2) + x % 2

halves : (x : ℕ) → x < 256 → Halves x
halves x small = record {
  top = omega arith;
  halved-64 = omega arith;
  halved-32 = omega arith;
  halved-16 = omega arith;
  halved-8 = omega arith;
  halved-4 = omega arith;
  halved-2 = omega arith;
  halved = omega arith;
}

whole_byte : (x : ℕ) → x / 2 ^ 0 ≡ x
whole_byte x = omega arith

-- the number of a byte's first bits is the byte without the others
number-front : (x used : ℕ) → x < 256 → 1 ≤ used → used ≤ 8 → number_of (take used (byte_bits x)) ≡ x / 2 ^ (8 - used)
number-front x zero small some most = absurd (omega arith)
number-front x (suc zero) small some most =
    let h = halves x small in
    let b7 = bit_worth (x / 128) 1 in
    omega arith
number-front x (suc (suc zero)) small some most =
    let h = halves x small in
    let b7 = bit_worth (x / 128) 2 in
    let b6 = bit_worth (x / 64) 1 in
    omega arith
number-front x (suc (suc (suc zero))) small some most =
    let h = halves x small in
    let b7 = bit_worth (x / 128) 4 in
    let b6 = bit_worth (x / 64) 2 in
    let b5 = bit_worth (x / 32) 1 in
    omega arith
number-front x (suc (suc (suc (suc zero)))) small some most =
    let h = halves x small in
    let b7 = bit_worth (x / 128) 8 in
    let b6 = bit_worth (x / 64) 4 in
    let b5 = bit_worth (x / 32) 2 in
    let b4 = bit_worth (x / 16) 1 in
    omega arith
number-front x (suc (suc (suc (suc (suc zero))))) small some most =
    let h = halves x small in
    let b7 = bit_worth (x / 128) 16 in
    let b6 = bit_worth (x / 64) 8 in
    let b5 = bit_worth (x / 32) 4 in
    let b4 = bit_worth (x / 16) 2 in
    let b3 = bit_worth (x / 8) 1 in
    omega arith
number-front x (suc (suc (suc (suc (suc (suc zero)))))) small some most =
    let h = halves x small in
    let b7 = bit_worth (x / 128) 32 in
    let b6 = bit_worth (x / 64) 16 in
    let b5 = bit_worth (x / 32) 8 in
    let b4 = bit_worth (x / 16) 4 in
    let b3 = bit_worth (x / 8) 2 in
    let b2 = bit_worth (x / 4) 1 in
    omega arith
number-front x (suc (suc (suc (suc (suc (suc (suc zero))))))) small some most =
    let h = halves x small in
    let b7 = bit_worth (x / 128) 64 in
    let b6 = bit_worth (x / 64) 32 in
    let b5 = bit_worth (x / 32) 16 in
    let b4 = bit_worth (x / 16) 8 in
    let b3 = bit_worth (x / 8) 4 in
    let b2 = bit_worth (x / 4) 2 in
    let b1 = bit_worth (x / 2) 1 in
    omega arith
number-front x (suc (suc (suc (suc (suc (suc (suc (suc zero)))))))) small some most =
    let h = halves x small in
    let b7 = bit_worth (x / 128) 128 in
    let b6 = bit_worth (x / 64) 64 in
    let b5 = bit_worth (x / 32) 32 in
    let b4 = bit_worth (x / 16) 16 in
    let b3 = bit_worth (x / 8) 8 in
    let b2 = bit_worth (x / 4) 4 in
    let b1 = bit_worth (x / 2) 2 in
    let b0 = bit_worth x 1 in
    omega arith
number-front x (suc (suc (suc (suc (suc (suc (suc (suc (suc used))))))))) small some most = absurd (omega arith)

-- ---- parts of a bit string

pub segment-short : (x used : ℕ) → x < 256 → 1 ≤ used → used < 8 → printed_segment (take used (byte_bits x)) ≡
    (decimal (x / 2 ^ (8 - used)) ++ 58 ∷ []) ++ decimal used
segment-short x zero small some most = absurd (omega arith)
segment-short x (suc zero) small some most = ap (λ n. (decimal n ++ 58 ∷ []) ++ decimal 1) (number-front x 1 small (omega arith) (omega arith))
segment-short x (suc (suc zero)) small some most = ap (λ n. (decimal n ++ 58 ∷ []) ++ decimal 2) (number-front x 2 small (omega arith) (omega arith))
segment-short x (suc (suc (suc zero))) small some most = ap (λ n. (decimal n ++ 58 ∷ []) ++ decimal 3) (number-front x 3 small (omega arith) (omega arith))
segment-short x (suc (suc (suc (suc zero)))) small some most = ap (λ n. (decimal n ++ 58 ∷ []) ++ decimal 4)
    (number-front x 4 small (omega arith) (omega arith))
segment-short x (suc (suc (suc (suc (suc zero))))) small some most = ap (λ n. (decimal n ++ 58 ∷ []) ++ decimal 5)
    (number-front x 5 small (omega arith) (omega arith))
segment-short x (suc (suc (suc (suc (suc (suc zero)))))) small some most =
    ap (λ n. (decimal n ++ 58 ∷ []) ++ decimal 6) (number-front x 6 small (omega arith) (omega arith))
segment-short x (suc (suc (suc (suc (suc (suc (suc zero))))))) small some most =
    ap (λ n. (decimal n ++ 58 ∷ []) ++ decimal 7) (number-front x 7 small (omega arith) (omega arith))
segment-short x (suc (suc (suc (suc (suc (suc (suc (suc used)))))))) small some most = absurd (omega arith)

-- all eight bits
pub segment-whole : (x used : ℕ) → x < 256 → 8 ≤ used → used ≤ 8 → printed_segment (take used (byte_bits x)) ≡ decimal (x / 2 ^ (8 - used))
segment-whole x used small some most =
    let same : used ≡ 8 = omega arith in
    subst (λ n. printed_segment (take n (byte_bits x)) ≡ decimal (x / 2 ^ (8 - n))) (sym same) (ap decimal (number-front x 8 small (omega arith) (omega arith)))

segment-byte : (x : ℕ) → x < 256 → printed_segment (byte_bits x) ≡ decimal x
segment-byte x small = ap decimal (number-front x 8 small (omega arith) (omega arith) ∙ whole_byte x)

-- ---- bytes by eights

octets-last : (x used : ℕ) → 1 ≤ used → used ≤ 8 → octets (take used (byte_bits x)) ≡ take used (byte_bits x) ∷ []
octets-last x zero some most = absurd (omega arith)
octets-last x (suc zero) some most = refl
octets-last x (suc (suc zero)) some most = refl
octets-last x (suc (suc (suc zero))) some most = refl
octets-last x (suc (suc (suc (suc zero)))) some most = refl
octets-last x (suc (suc (suc (suc (suc zero))))) some most = refl
octets-last x (suc (suc (suc (suc (suc (suc zero)))))) some most = refl
octets-last x (suc (suc (suc (suc (suc (suc (suc zero))))))) some most = refl
octets-last x (suc (suc (suc (suc (suc (suc (suc (suc zero)))))))) some most = refl
octets-last x (suc (suc (suc (suc (suc (suc (suc (suc (suc used))))))))) some most = absurd (omega arith)

octets-bytes : (whole : List ℕ) (last used : ℕ) → 1 ≤ used → used ≤ 8 → octets (bits_of (whole ++ last ∷ []) used) ≡ map byte_bits whole ++ take used
    (byte_bits last) ∷ []
octets-bytes [] last used some most = octets-last last used some most
octets-bytes (x ∷ []) last used some most = ap (λ l. byte_bits x ∷ l) (octets-last last used some most)
octets-bytes (x ∷ y ∷ whole) last used some most = ap (λ l. byte_bits x ∷ l) (octets-bytes (y ∷ whole) last used some most)

-- each byte but the last with a comma behind it
segments-bytes : (whole : List ℕ) → AllByRecursion (λ x. x < 256) whole
    → flat_map (λ b. printed_segment b ++ 44 ∷ []) (map byte_bits whole) ≡ flat_map (λ x. decimal x ++ 44 ∷ []) whole
segments-bytes [] small = refl
segments-bytes (x ∷ whole) small =
    ap (λ l. (l ++ 44 ∷ []) ++ flat_map (λ b. printed_segment b ++ 44 ∷ []) (map byte_bits whole)) (segment-byte x small.0)
    ∙ ap (λ l. (decimal x ++ 44 ∷ []) ++ l) (segments-bytes whole small.1)

-- the bytes of a bit string: those in front of the last with a comma behind each, and the used bits of the last
joined-bytes : (whole : List ℕ) (last used : ℕ) → AllByRecursion (λ x. x < 256) whole → 1 ≤ used → used ≤ 8
    → join_by printed_segment (44 ∷ []) (octets (bits_of (whole ++ last ∷ []) used)) ≡ flat_map (λ x. decimal x ++ 44 ∷ []) whole ++ printed_segment
    (take used (byte_bits last))
joined-bytes whole last used small some most =
    ap (join_by printed_segment (44 ∷ [])) (octets-bytes whole last used some most)
    ∙ joined-last printed_segment (44 ∷ []) (map byte_bits whole) (take used (byte_bits last))
    ∙ ap (λ l. l ++ printed_segment (take used (byte_bits last))) (segments-bytes whole small)

small_front : (whole : List ℕ) (last : ℕ) → ((i : ℕ) → get_or (whole ++ last ∷ []) i 0 < 256) → AllByRecursion (λ x. x < 256) whole
small_front [] last small = tt
small_front (x ∷ whole) last small = (small 0, small_front whole last (λ i. small (suc i)))

-- the same of all bytes
pub printed-bytes : (bytes whole : List ℕ) (last used : ℕ) → bytes ≡ whole ++ last ∷ [] → ((i : ℕ) → get_or bytes i 0 < 256) → 1 ≤ used → used ≤ 8
    → join_by printed_segment (44 ∷ []) (octets (bits_of bytes used)) ≡ flat_map (λ x. decimal x ++ 44 ∷ []) whole ++ printed_segment
    (take used (byte_bits last))
printed-bytes bytes whole last used e small some most =
    ap (λ l. join_by printed_segment (44 ∷ []) (octets (bits_of l used))) e
    ∙ joined-bytes whole last used (small_front whole last (λ i. subst (λ l. get_or l i 0 < 256) e (small i))) some most

pub printed-no_bytes : (bytes : List ℕ) (used : ℕ) → length bytes ≡ 0 → join_by printed_segment (44 ∷ []) (octets (bits_of bytes used)) ≡ []
printed-no_bytes [] used e = refl
printed-no_bytes (x ∷ bytes) used e = absurd (omega arith)
