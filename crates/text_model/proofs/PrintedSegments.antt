-- A printed bit string is its segments.
use Rattle.std.proofs.Common.{◌≡◌, ℕ, ◌<◌, ◌≤◌, ◌^◌, pos, Bool, true, false, cond, ◌==◌, nat_le, List, [], ◌∷◌, ◌++◌, length, ⊎_elim, inl, inr}
use Rattle.std.proofs.Common.{flat_map, refl, ap, ◌∙◌, sym, subst, append_assoc, lt-ltb, arith}
use Rattle.std.proofs.lemmas.Bool.{cases_lt, le-leb}
use Rattle.std.proofs.lemmas.Bool.Decides.{nat_tests}
use Rattle.std.proofs.Math.Pow.{pow_mono}
use Rattle.std.specs.List.{join_by}
use Rattle.std.specs.Fmt.{decimal}
use Rattle.dets_term.specs.TermValue.{bits}
use Rattle.text_model.specs.declared.mark.Mark.TheVariants.{OpenBits, CloseBits, Comma, Colon}
use Rattle.text_model.specs.Token.{Token, mark, number, fits}
use Rattle.text_model.specs.Grammar.{strict, Closes, is_sized, last_bits, IsSegment, IsSized, AreSegments, InBits}
use Rattle.text_model.specs.Printed.{number_of, octets, printed_segment, printed_bits}
use Rattle.text_model.proofs.OneMore.{both}
use Rattle.text_model.proofs.PrintedTokens.{apart_digits, Shown, Prints, one_shown, shown_as, marked, joined_shown, part_shown, marked_follows, closes_follows}
use Rattle.text_model.proofs.PrintedNumbers.{integer_spelled}
use Rattle.text_model.proofs.PrintedBits.{bits_told, AreOctets, octets_are, octets_whole}

byte_fits : (n : ℕ) → n < 256 → fits (pos n) ≡ true
byte_fits n h = grind (arith, nat_tests)

-- a number of one byte
number_prints : (Is : List Token → List Token → Type 0) (n : ℕ) → n < 256 → ((behind : List Token) → Is (number (pos n) ∷ behind) behind)
    → Prints Is (decimal n)
number_prints Is n h is rest apart =
    one_shown (number (pos n)) Is (decimal n) rest (byte_fits n h) (integer_spelled (pos n) rest (byte_fits n h) (apart_digits rest apart)) is

-- ---- a segment

eight : (bs : List Bool) → length bs ≡ 8 → (bs ≡ last_bits 8 (pos (number_of bs))) × (number_of bs < 256)
eight bs e =
    subst (λ n. (bs ≡ last_bits n (pos (number_of bs))) × (number_of bs < 2 ^ n)) e (bits_told bs (omega arith))

whole_prints : (bs : List Bool) → length bs ≡ 8 → Prints (IsSegment strict bs) (printed_segment bs)
whole_prints bs e =
    let told = eight bs e in
    let same : printed_segment bs ≡ decimal (number_of bs)
    = ap (λ n. cond (n == 8) (decimal (number_of bs)) ((decimal (number_of bs) ++ 58 ∷ []) ++ decimal n)) e in
    subst (Prints (IsSegment strict bs)) (sym same)
    (number_prints (IsSegment strict bs) (number_of bs) told.1 (λ behind. inl (pos (number_of bs), refl, (λ _. lt-ltb (number_of bs) 256 told.1), told.0)))

sized_prints : (bs : List Bool) → 1 ≤ length bs → length bs ≤ 7 → Prints (IsSized strict bs) (printed_segment bs)
sized_prints bs some few rest apart =
    let told = bits_told bs (omega arith) in
    let fewer : (length bs == 8) ≡ false = grind (arith, nat_tests) in
    let same : printed_segment bs ≡ decimal v ++ 58 ∷ decimal n
    = ap (λ b. cond b (decimal v) ((decimal v ++ 58 ∷ []) ++ decimal n)) fewer ∙ append_assoc (decimal v) (58 ∷ []) (decimal n) in
    let sized : is_sized (pos v) (pos n) ≡ true = both (nat_le 1 n) _ (le-leb 1 n some) (both (nat_le n 7) _ (le-leb n 7 few) (lt-ltb v (2 ^ n) told.1)) in
    let wide : 2 ^ n ≤ 2 ^ 7 = pow_mono few in
    let small : v < 256 = omega (arith, told.1) in
    let count : Shown Sized (58 ∷ decimal n) rest
    = marked Colon (One n) Sized (decimal n) rest (λ tokens behind e. ap (λ l. mark Colon ∷ l) e)
    (number_prints (One n) n (omega arith) (λ behind. refl) rest apart) in
    subst (λ l. Shown (IsSized strict bs) l rest) (sym same)
    (joined_shown (One v) Sized (IsSized strict bs) (decimal v) (58 ∷ decimal n) rest
    (λ tokens middle behind e f. (pos v, pos n, e ∙ ap (λ l. number (pos v) ∷ l) f, (λ _. sized), told.0))
    (number_prints (One v) v small (λ behind. refl) (58 ∷ (decimal n ++ rest)) refl) count)
  where
    v : ℕ
    v = number_of bs

    n : ℕ
    n = length bs

    One : ℕ → List Token → List Token → Type 0
    One k tokens behind = tokens ≡ number (pos k) ∷ behind

    Sized : List Token → List Token → Type 0
    Sized tokens behind = tokens ≡ mark Colon ∷ number (pos n) ∷ behind

-- ---- segments

abbrev bytes_behind : List (List Bool) → List ℕ
bytes_behind more = flat_map (λ bs. 44 ∷ printed_segment bs) more ++ 62 ∷ 62 ∷ []

last_shown : (bs : List Bool) (rest : List ℕ) → 1 ≤ length bs → length bs ≤ 8 → Shown (AreSegments strict (bs ∷ [])) (printed_segment bs ++ 62 ∷ 62 ∷ []) rest
last_shown bs rest some most =
    ⊎_elim
    (λ (few : length bs < 8). part_shown (IsSized strict bs) (Closes CloseBits) (AreSegments strict (bs ∷ [])) (printed_segment bs) (62 ∷ 62 ∷ []) rest
    (λ tokens middle behind i e. inr (subst (IsSized strict bs tokens) e i)) (sized_prints bs some (omega arith)) (closes_follows CloseBits (λ more. refl)))
    (λ (all : 8 ≤ length bs). part_shown (IsSegment strict bs) (Closes CloseBits) (AreSegments strict (bs ∷ [])) (printed_segment bs) (62 ∷ 62 ∷ []) rest
    (λ tokens middle behind i e. inl (subst (IsSegment strict bs tokens) e i)) (whole_prints bs (omega arith)) (closes_follows CloseBits (λ more. refl)))
    (cases_lt (length bs) 8)

segments_shown : (bs : List Bool) (more : List (List Bool)) (rest : List ℕ) → AreOctets (bs ∷ more)
    → Shown (AreSegments strict (bs ∷ more)) (printed_segment bs ++ bytes_behind more) rest
segments_shown bs [] rest are = last_shown bs rest are.0 are.1
segments_shown bs (cs ∷ more) rest are =
    let same : bytes_behind (cs ∷ more) ≡ 44 ∷ (printed_segment cs ++ bytes_behind more)
    = ap (λ l. 44 ∷ l) (append_assoc (printed_segment cs) (flat_map (λ ds. 44 ∷ printed_segment ds) more) (62 ∷ 62 ∷ [])) in
    subst (λ l. Shown (AreSegments strict (bs ∷ cs ∷ more)) (printed_segment bs ++ l) rest) (sym same)
    (part_shown (IsSegment strict bs) Others (AreSegments strict (bs ∷ cs ∷ more)) (printed_segment bs) (44 ∷ (printed_segment cs ++ bytes_behind more)) rest
    (λ tokens middle behind i (next, e, o). (next, subst (IsSegment strict bs tokens) e i, o)) (whole_prints bs are.0)
    (marked_follows Comma (AreSegments strict (cs ∷ more)) Others (printed_segment cs ++ bytes_behind more) (λ more. refl)
    (λ tokens behind s. (tokens, refl, s)) (λ others. segments_shown cs more others are.1)))
  where
    Others : List Token → List Token → Type 0
    Others tokens behind = (next : List Token) × (tokens ≡ mark Comma ∷ next) × AreSegments strict (cs ∷ more) next behind

-- ---- bit strings

inside_shown : (bs : List Bool) (segments : List (List Bool)) (rest : List ℕ) → octets bs ≡ segments → AreOctets segments
    → Shown (InBits strict (bits bs)) (join_by printed_segment (44 ∷ []) segments ++ 62 ∷ 62 ∷ []) rest
inside_shown bs [] rest e are =
    let none : bs ≡ [] = sym (octets_whole bs) ∙ ap (flat_map (λ ds. ds)) e in
    one_shown (mark CloseBits) (InBits strict (bits bs)) (62 ∷ 62 ∷ []) rest tt refl (λ behind. inl (ap bits none, refl))
inside_shown bs (cs ∷ more) rest e are =
    let whole : bs ≡ flat_map (λ ds. ds) (cs ∷ more) = sym (octets_whole bs) ∙ ap (flat_map (λ ds. ds)) e in
    let same : join_by printed_segment (44 ∷ []) (cs ∷ more) ++ 62 ∷ 62 ∷ [] ≡ printed_segment cs ++ bytes_behind more
    = append_assoc (printed_segment cs) (flat_map (λ ds. 44 ∷ printed_segment ds) more) (62 ∷ 62 ∷ []) in
    subst (λ l. Shown (InBits strict (bits bs)) l rest) (sym same)
    (shown_as (AreSegments strict (cs ∷ more)) (InBits strict (bits bs)) (printed_segment cs ++ bytes_behind more) rest
    (λ tokens behind s. inr (cs ∷ more, ap bits whole, s)) (segments_shown cs more rest are))

pub bits_print : (bs : List Bool) (Is : List Token → List Token → Type 0)
    → ((tokens behind : List Token) → InBits strict (bits bs) tokens behind → Is (mark OpenBits ∷ tokens) behind) → Prints Is (printed_bits bs)
bits_print bs Is begins rest apart =
    marked OpenBits (InBits strict (bits bs)) Is (join_by printed_segment (44 ∷ []) (octets bs) ++ 62 ∷ 62 ∷ []) rest begins
    (inside_shown bs (octets bs) rest refl (octets_are bs))
