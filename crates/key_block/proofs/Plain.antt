-- Plain terms are terms, and bytes that spell them canonically.
use Rattle.std.proofs.Common.{◌≡◌, ◌≤◌, ◌<◌, ℕ, zero, suc, ◌+◌, ◌-◌, ◌*◌, ◌%◌, ◌^◌, pos, true, false, ltb, leb, List, [], ◌∷◌, ◌++◌, length, take, drop, get_or, ⊎_elim, refl, sym, ap, ◌∙◌, subst, arith}
use Rattle.std.specs.Prelude.{negsuc}
use Rattle.std.specs.Int.{w32, to_be_bytes, from_be_bytes}
use Rattle.std.specs.Str.{IsUtf8, chars, encode_utf8_all}
use Rattle.std.proofs.lemmas.Bool.{cond-true, cond-false, cases_lt, le-leb, lt-leb, lt-ltb, le-ltb}
use Rattle.std.proofs.lemmas.List.{length-take-le}
use Rattle.std.proofs.lemmas.Nat.{be_bytes_4}
use Rattle.std.proofs.Math.Seq.{take-add}
use Rattle.std.proofs.lemmas.Str.{encodes-chars, scalars-chars, length-le-encodes}
use Rattle.dets_term.specs.TermValue.{TermValue, integer, atom, tuple, mapping, nil, cons, bits, depth}
use Rattle.dets_term.specs.IsTerm.{IsTerm, IsBounded}
use Rattle.dets_term.specs.BitString.{bits_of, IsPadded}
use Rattle.etf_model.specs.declared.tags.TheConstants.{NIL, SMALL_INTEGER, INTEGER, SMALL_ATOM_UTF8, BINARY}
use Rattle.etf_model.specs.Canonical.{canonical, text_head}
use Rattle.etf_codec.proofs.Packing.{bits_spelling-whole, whole-bits_of, length-bits_of}
use Rattle.key_block.specs.Single.{IsPlain, IsPlainFront}

plain_bounded : (t : TermValue) → IsPlain t → IsBounded t
plain_bounded (integer (pos n)) p = record { sfits = omega (arith, p.sfits) }
plain_bounded (integer (negsuc n)) p = record { sfits = omega (arith, p.sfits) }
plain_bounded (atom name) p = (omega (arith, length-le-encodes name, p.1), p.0)
plain_bounded (tuple parts) p = absurd p
plain_bounded (mapping keys values) p = absurd p
plain_bounded nil p = tt
plain_bounded (cons first rest) p = absurd p
plain_bounded (bits bs) p = p.1

pub plain_depth : (t : TermValue) → IsPlain t → depth t ≡ 1
plain_depth (integer z) p = refl
plain_depth (atom name) p = refl
plain_depth (tuple parts) p = absurd p
plain_depth (mapping keys values) p = absurd p
plain_depth nil p = refl
plain_depth (cons first rest) p = absurd p
plain_depth (bits bs) p = refl

pub plain_term : (t : TermValue) → IsPlain t → IsTerm t
plain_term t p = record { shallow = omega (arith, plain_depth t p); bounded = plain_bounded t p }

-- ---- behind a tag

-- a plain term whose spelling is a tag and so many of the bytes behind it
pub measured : (tag : ℕ) (rest : List ℕ) (n count : ℕ) (t : TermValue) → IsPlain t → canonical t ≡ tag ∷ take n rest → n ≤ length rest → count ≡ suc n
    → IsPlainFront (tag ∷ rest) count
measured tag rest n count t plain same fits e = record {
  term = t;
  plain = plain;
  fits = omega arith;
  front = ap (λ m. take m (tag ∷ rest)) e ∙ sym same;
}

pub nil_front : (bytes : List ℕ) (tag : ℕ) (rest : List ℕ) → bytes ≡ tag ∷ rest → tag ≡ NIL → IsPlainFront bytes 1
nil_front bytes tag rest cut same = record {
  term = nil;
  plain = tt;
  fits = omega (arith, ap length cut);
  front = ap (take 1) cut ∙ ap (λ x. x ∷ []) same;
}

-- ---- bytes

abbrev pub AreBytes : List ℕ → Type 0
AreBytes xs = (i : ℕ) → get_or xs i 0 < 256

take_bytes : (n : ℕ) (xs : List ℕ) → AreBytes xs → AreBytes (take n xs)
take_bytes zero xs bytes i = omega arith
take_bytes (suc n) [] bytes i = omega arith
take_bytes (suc n) (x ∷ xs) bytes zero = bytes 0
take_bytes (suc n) (x ∷ xs) bytes (suc i) = take_bytes n xs (λ j. bytes (suc j)) i

drop_bytes : (n : ℕ) (xs : List ℕ) → AreBytes xs → AreBytes (drop n xs)
drop_bytes zero xs bytes i = bytes i
drop_bytes (suc n) [] bytes i = omega arith
drop_bytes (suc n) (x ∷ xs) bytes i = drop_bytes n xs (λ j. bytes (suc j)) i

-- a number of four bytes is spelled by them
four_bytes : (rest four others : List ℕ) (n : ℕ) → (four ≡ take 4 rest) × (others ≡ drop 4 rest) × (length others + 4 ≡ length rest)
    → AreBytes rest → n ≡ from_be_bytes w32 four → to_be_bytes w32 n ≡ take 4 rest
four_bytes rest four others n cut bytes value =
    be_bytes_4 (take 4 rest) n (length-take-le 4 rest (omega (arith, cut.2))) (take_bytes 4 rest bytes) (value ∙ ap (from_be_bytes w32) cut.0)

-- ---- integers

pub small_front : (rest : List ℕ) → 0 < length rest → AreBytes rest → IsPlainFront (SMALL_INTEGER ∷ rest) 2
small_front [] some fits = absurd (omega arith)
small_front (x ∷ rest) some fits =
    let byte : x < 256 = fits 0 in
    measured SMALL_INTEGER (x ∷ rest) 1 2 (integer (pos x)) (record { sfits = omega arith }) (cond-true (leb x 255) _ _ (le-leb x 255 (omega arith)))
    (omega arith) (omega arith)

record PlainWith (bytes : List ℕ) : Type 0 where
  term : TermValue
  plain : IsPlain term
  same : canonical term ≡ bytes

wide_term : (n : ℕ) → 255 < n → n < 2 ^ 32 → PlainWith (INTEGER ∷ to_be_bytes w32 n)
wide_term n above below = ⊎_elim
    (λ (small : n < 2 ^ 31). record {
      term = integer (pos n);
      plain = record { sfits = small };
      same = cond-false (leb n 255) _ _ (lt-leb n 255 above) ∙ cond-true (ltb n (2 ^ 31)) _ _ (lt-ltb n (2 ^ 31) small);
    })
    (λ (large : 2 ^ 31 ≤ n).
    let m : ℕ = 2 ^ 32 - 1 - n in
    let low : m < 2 ^ 31 = omega arith in
    let back : 2 ^ 32 - suc m ≡ n = omega arith in
    record {
      term = integer (negsuc m);
      plain = record { sfits = low };
      same = cond-true (ltb m (2 ^ 31)) _ _ (lt-ltb m (2 ^ 31) low) ∙ ap (λ k. INTEGER ∷ to_be_bytes w32 k) back;
    })
    (cases_lt n (2 ^ 31))

pub wide_front : (rest four others : List ℕ) (n : ℕ) → (four ≡ take 4 rest) × (others ≡ drop 4 rest) × (length others + 4 ≡ length rest)
    → AreBytes rest → n ≡ from_be_bytes w32 four → 255 < n → n < 2 ^ 32 → IsPlainFront (INTEGER ∷ rest) 5
wide_front rest four others n cut bytes value above below =
    let w = wide_term n above below in
    measured INTEGER rest 4 5 w.term w.plain (w.same ∙ ap (λ bs. INTEGER ∷ bs) (four_bytes rest four others n cut bytes value)) (omega (arith, cut.2)) (omega arith)

-- ---- atoms

name_at : (count : ℕ) (others : List ℕ) → count < 256 → count ≤ length others → IsUtf8 (take count others)
    → IsPlainFront (SMALL_ATOM_UTF8 ∷ count ∷ others) (2 + count)
name_at count others byte long text =
    let back : encode_utf8_all (chars (take count others)) ≡ take count others = encodes-chars (take count others) text in
    let size : length (take count others) ≡ count = length-take-le count others long in
    let head : text_head (length (take count others)) ≡ SMALL_ATOM_UTF8 ∷ count ∷ [] =
    ap text_head size ∙ cond-true (leb count 255) _ _ (le-leb count 255 (omega arith)) ∙ ap (λ n. SMALL_ATOM_UTF8 ∷ n ∷ []) (omega arith) in
    measured SMALL_ATOM_UTF8 (count ∷ others) (suc count) (2 + count) (atom (chars (take count others)))
    (scalars-chars (take count others) text, let same = ap length back in omega arith)
    (ap (λ bs. text_head (length bs) ++ bs) back ∙ ap (λ bs. bs ++ take count others) head)
    (omega arith) (omega arith)

pub name_front : (rest : List ℕ) (count : ℕ) (others : List ℕ) → rest ≡ count ∷ others → AreBytes rest → count ≤ length others → IsUtf8 (take count others)
    → IsPlainFront (SMALL_ATOM_UTF8 ∷ rest) (2 + count)
name_front rest count others cut bytes long text =
    subst (λ r. IsPlainFront (SMALL_ATOM_UTF8 ∷ r) (2 + count)) (sym cut) (name_at count others (subst AreBytes cut bytes 0) long text)

-- ---- whole bytes

plain_bits : (bytes : List ℕ) → length bytes < 2 ^ 32 → IsPlain (bits (bits_of bytes 8))
plain_bits [] few = (omega arith, omega arith)
plain_bits (x ∷ bytes) few = (whole-bits_of (x ∷ bytes), let size = length-bits_of x bytes 8 (omega arith) in omega arith)

pub whole_front : (rest four others : List ℕ) (count : ℕ) → (four ≡ take 4 rest) × (others ≡ drop 4 rest) × (length others + 4 ≡ length rest)
    → AreBytes rest → count ≡ from_be_bytes w32 four → count < 2 ^ 32 → count ≤ length others → IsPlainFront (BINARY ∷ rest) (5 + count)
whole_front rest four others count cut bytes value few enough =
    let within : count ≤ length (drop 4 rest) = omega (arith, ap length cut.1) in
    let size : length (take count (drop 4 rest)) ≡ count = length-take-le count (drop 4 rest) within in
    let padded : IsPadded (take count (drop 4 rest)) 8 = record { used = (omega arith, omega arith, λ e. refl); zeros = omega arith } in
    measured BINARY rest (4 + count) (5 + count) (bits (bits_of (take count (drop 4 rest)) 8)) (plain_bits (take count (drop 4 rest)) (omega arith))
    (bits_spelling-whole (take count (drop 4 rest)) 8 refl (take_bytes count (drop 4 rest) (drop_bytes 4 rest bytes)) padded
    ∙ ap (λ n. BINARY ∷ (to_be_bytes w32 n ++ take count (drop 4 rest))) size
    ∙ ap (λ bs. BINARY ∷ (bs ++ take count (drop 4 rest))) (four_bytes rest four others count cut bytes value)
    ∙ ap (λ bs. BINARY ∷ bs) (sym (take-add 4 count rest)))
    (omega (arith, cut.2)) (omega arith)
