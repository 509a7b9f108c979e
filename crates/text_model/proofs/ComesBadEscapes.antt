-- Bytes behind a backslash that begin no escape, whatever follows.
use Rattle.std.proofs.Common.{◌≡◌, ℕ, ◌+◌, ◌*◌, ◌≤◌, ◌⊎◌, Bool, true, false, ◌==◌, ◌&&◌, ◌||◌, nat_lt, List, [], ◌∷◌, ◌++◌, length, length-append}
use Rattle.std.proofs.Common.{Some, None, eq-eqb, lt-ltb, refl, ap, ◌∙◌, sym, inl, inr, append_assoc, append-nil, arith}
use Rattle.std.proofs.lemmas.Bool.{and_parts}
use Rattle.std.proofs.lemmas.Bool.Decides.{nat_tests}
use Rattle.std.specs.Char.{IsScalar, is_ascii_hexdigit}
use Rattle.std.specs.Str.{all_scalars}
use Rattle.text_model.specs.Characters.{each, is_octal, digit_value, number_in, escape_of, IsOctal, IsPair, IsBraced, Escapes}
use Rattle.text_model.proofs.Comes.{AreDigits}
use Rattle.text_model.proofs.OneMore.{both, are_digits_push}

abbrev pub IsBad : List ℕ → Type 0
IsBad escape = (more : List ℕ) (c : ℕ) (behind : List ℕ) → Escapes c (escape ++ more) behind → ⊥

-- a test says both
pub clash : (b : Bool) → b ≡ true → b ≡ false → ⊥
clash b e f = cc

pub octal_first : (c x : ℕ) (bytes more behind : List ℕ) → bytes ≡ x ∷ more → IsOctal c bytes behind → is_octal x ≡ true
octal_first c x bytes more behind e o = by_digits o.digits o.some o.octal (sym e ∙ o.whole)
  where
    by_digits : (ds : List ℕ) → 1 ≤ length ds → each is_octal ds ≡ true → x ∷ more ≡ ds ++ behind → is_octal x ≡ true
    by_digits [] some e f = absurd (omega arith)
    by_digits (d ∷ ds) some e f = let same : x ≡ d = cc in ap is_octal same ∙ (and_parts (is_octal d) (each is_octal ds) e).0

pub bad_first : (x : ℕ) → is_octal x ≡ false → (x == 120) ≡ false → escape_of x ≡ None → IsBad (x ∷ [])
bad_first x o e n more c behind (inl (y, f, g)) = let same : x ≡ y = cc in let found : None ≡ Some c = sym n ∙ ap escape_of same ∙ g in cc
bad_first x o e n more c behind (inr (inl f)) = clash (is_octal x) (octal_first c x _ more behind refl f) o
bad_first x o e n more c behind (inr (inr (inl f))) = let w = f.whole in let same : x ≡ 120 = cc in clash (x == 120) (eq-eqb x 120 same) e
bad_first x o e n more c behind (inr (inr (inr f))) = let w = f.whole in let same : x ≡ 120 = cc in clash (x == 120) (eq-eqb x 120 same) e

-- behind `x` there is a pair of digits, or digits in braces
behind_x : (c : ℕ) (bytes behind : List ℕ) → Escapes c (120 ∷ bytes) behind → IsPair c (120 ∷ bytes) behind ⊎ IsBraced c (120 ∷ bytes) behind
behind_x c bytes behind (inl (y, f, g)) = let same : 120 ≡ y = cc in let found : None ≡ Some c = ap escape_of same ∙ g in cc
behind_x c bytes behind (inr (inl f)) = let o : is_octal 120 ≡ true = octal_first c 120 _ bytes behind refl f in cc
behind_x c bytes behind (inr (inr (inl f))) = inl f
behind_x c bytes behind (inr (inr (inr f))) = inr f

pub hex_parts : (h l : ℕ) → each is_ascii_hexdigit (h ∷ l ∷ []) ≡ true → (is_ascii_hexdigit h ≡ true) × (is_ascii_hexdigit l ≡ true)
hex_parts h l e =
    let p = and_parts (is_ascii_hexdigit h) (each is_ascii_hexdigit (l ∷ [])) e in (p.0, (and_parts (is_ascii_hexdigit l) true p.1).0)

pub bad_second : (x : ℕ) → is_ascii_hexdigit x ≡ false → (x == 123) ≡ false → IsBad (120 ∷ x ∷ [])
bad_second x h e more c behind f = by_form (behind_x c (x ∷ more) behind f)
  where
    by_form : IsPair c (120 ∷ x ∷ more) behind ⊎ IsBraced c (120 ∷ x ∷ more) behind → ⊥
    by_form (inl g) =
        let w = g.whole in let same : x ≡ g.high = cc in
        clash (is_ascii_hexdigit x) (ap is_ascii_hexdigit same ∙ (hex_parts g.high g.low g.hexadecimal).0) h
    by_form (inr g) = let w = g.whole in let same : x ≡ 123 = cc in clash (x == 123) (eq-eqb x 123 same) e

pub bad_third : (h x : ℕ) → is_ascii_hexdigit h ≡ true → is_ascii_hexdigit x ≡ false → IsBad (120 ∷ h ∷ x ∷ [])
bad_third h x d e more c behind f = by_form (behind_x c (h ∷ x ∷ more) behind f)
  where
    by_form : IsPair c (120 ∷ h ∷ x ∷ more) behind ⊎ IsBraced c (120 ∷ h ∷ x ∷ more) behind → ⊥
    by_form (inl g) =
        let w = g.whole in let same : x ≡ g.low = cc in
        clash (is_ascii_hexdigit x) (ap is_ascii_hexdigit same ∙ (hex_parts g.high g.low g.hexadecimal).1) e
    by_form (inr g) = let w = g.whole in let same : h ≡ 123 = cc in let hex : is_ascii_hexdigit 123 ≡ true = ap is_ascii_hexdigit (sym same) ∙ d in cc

-- ---- braces

-- what a test passes, up to a byte that it does not, begins with what it passes
pass_prefix : (test : ℕ → Bool) (b : ℕ) (xs ds rest more : List ℕ) → test b ≡ false → each test ds ≡ true → xs ++ b ∷ rest ≡ ds ++ more
    → (extra : List ℕ) × (xs ≡ ds ++ extra) × (more ≡ extra ++ b ∷ rest)
pass_prefix test b xs [] rest more f e same = (xs, refl, sym same)
pass_prefix test b [] (d ∷ ds) rest more f e same =
    let equal : b ≡ d = cc in absurd (clash (test b) (ap test equal ∙ (and_parts (test d) (each test ds) e).0) f)
pass_prefix test b (x ∷ xs) (d ∷ ds) rest more f e same =
    let equal : x ≡ d = cc in
    let tails : xs ++ b ∷ rest ≡ ds ++ more = cc in
    let next = pass_prefix test b xs ds rest more f (and_parts (test d) (each test ds) e).1 tails in
    let front : x ∷ xs ≡ (d ∷ ds) ++ next.0 = let k = next.1 in cc in
    (next.0, front, next.2)

-- the byte behind some digits in braces closes them, or is one more
abbrev Goes : ℕ → (ds digits : List ℕ) → Type 0
Goes x ds digits = ((x ≡ 125) × (digits ≡ ds)) ⊎ ((is_ascii_hexdigit x ≡ true) × ((es : List ℕ) × (digits ≡ ds ++ x ∷ es)))

goes_by : (x : ℕ) (ds digits extra rest more : List ℕ) → each is_ascii_hexdigit digits ≡ true → digits ≡ ds ++ extra → x ∷ more ≡ extra ++ 125 ∷ rest
    → Goes x ds digits
goes_by x ds digits [] rest more e f g = inl (cc, f ∙ append-nil ds)
goes_by x ds digits (y ∷ es) rest more e f g =
    let same : y ≡ x = cc in
    let digits_are : digits ≡ ds ++ x ∷ es = f ∙ ap (λ z. ds ++ z ∷ es) same in
    inr (each_at ds es (ap (each is_ascii_hexdigit) (sym digits_are) ∙ e), (es, digits_are))
  where
    each_at : (ds es : List ℕ) → each is_ascii_hexdigit (ds ++ x ∷ es) ≡ true → is_ascii_hexdigit x ≡ true
    each_at [] es h = (and_parts (is_ascii_hexdigit x) (each is_ascii_hexdigit es) h).0
    each_at (d ∷ ds) es h = each_at ds es (and_parts (is_ascii_hexdigit d) (each is_ascii_hexdigit (ds ++ x ∷ es)) h).1

-- an escape that begins with a brace and digits
record IsClosed (x c : ℕ) (ds : List ℕ) : Type 0 where
  digits : List ℕ
  goes : Goes x ds digits
  some : 1 ≤ length digits
  few : length digits ≤ 6
  value : c ≡ number_in 16 digits
  scalar : IsScalar c

closed : (x c : ℕ) (ds more behind : List ℕ) → each is_ascii_hexdigit ds ≡ true → Escapes c ((120 ∷ 123 ∷ (ds ++ x ∷ [])) ++ more) behind → IsClosed x c ds
closed x c ds more behind e f = by_form (behind_x c (123 ∷ ((ds ++ x ∷ []) ++ more)) behind f)
  where
    by_form : IsPair c ((120 ∷ 123 ∷ (ds ++ x ∷ [])) ++ more) behind ⊎ IsBraced c ((120 ∷ 123 ∷ (ds ++ x ∷ [])) ++ more) behind → IsClosed x c ds
    by_form (inl g) =
        let w = g.whole in let same : 123 ≡ g.high = cc in
        let hex : is_ascii_hexdigit 123 ≡ true = ap is_ascii_hexdigit same ∙ (hex_parts g.high g.low g.hexadecimal).0 in cc
    by_form (inr g) =
        let w = g.whole in
        let inner : g.digits ++ 125 ∷ behind ≡ (ds ++ x ∷ []) ++ more = cc in
        let next = pass_prefix is_ascii_hexdigit 125 g.digits ds behind (x ∷ more) refl e (inner ∙ append_assoc ds (x ∷ []) more) in
        record {
          digits = g.digits;
          goes = goes_by x ds g.digits next.0 behind more g.hexadecimal next.1 next.2;
          some = g.some;
          few = g.few;
          value = g.value;
          scalar = g.scalar;
        }

pub scalar_test : (v c : ℕ) → v ≡ c → IsScalar c → all_scalars (v ∷ []) ≡ true
scalar_test v c e f = ap (λ k. all_scalars (k ∷ [])) e ∙ both _ true f refl

-- a closing brace behind no digits, or behind those of no scalar value
pub bad_brace : (v count : ℕ) (ds : List ℕ) → AreDigits 16 is_ascii_hexdigit v count ds → (nat_lt 0 count && all_scalars (v ∷ [])) ≡ false
    → IsBad (120 ∷ 123 ∷ (ds ++ 125 ∷ []))
bad_brace v count ds a t more c behind f = let k = closed 125 c ds more behind a.pass f in by_goes k k.goes
  where
    by_goes : (k : IsClosed 125 c ds) → Goes 125 ds k.digits → ⊥
    by_goes k (inl g) =
        let some : nat_lt 0 count ≡ true = lt-ltb 0 count (omega (arith, k.some, a.counted, ap length g.1)) in
        let value : v ≡ c = a.value ∙ ap (number_in 16) (sym g.1) ∙ sym k.value in
        clash (nat_lt 0 count && all_scalars (v ∷ [])) (both _ _ some (scalar_test v c value k.scalar)) t
    by_goes k (inr g) = let hex : is_ascii_hexdigit 125 ≡ true = g.0 in cc

pub few_or_last : (count : ℕ) (b : Bool) → b ≡ true → count ≤ 5 → (nat_lt count 5 || ((count == 5) && b)) ≡ true
few_or_last count true e h = grind (arith, nat_tests)
few_or_last count false e h = cc

-- neither a closing brace nor one more digit that may be there
pub bad_digit : (v count x : ℕ) (ds : List ℕ) → AreDigits 16 is_ascii_hexdigit v count ds → (x == 125) ≡ false
    → (is_ascii_hexdigit x && (nat_lt count 5 || ((count == 5) && all_scalars ((16 * v + digit_value x) ∷ [])))) ≡ false
    → IsBad (120 ∷ 123 ∷ (ds ++ x ∷ []))
bad_digit v count x ds a e t more c behind f = let k = closed x c ds more behind a.pass f in by_goes k k.goes
  where
    last : (k : IsClosed x c ds) (es : List ℕ) → is_ascii_hexdigit x ≡ true → k.digits ≡ ds ++ x ∷ es
        → (nat_lt count 5 || ((count == 5) && all_scalars ((16 * v + digit_value x) ∷ []))) ≡ true
    last k [] h g =
        let pushed = are_digits_push 16 is_ascii_hexdigit v count ds x a h in
        let value : 16 * v + digit_value x ≡ c = pushed.value ∙ ap (number_in 16) (sym g) ∙ sym k.value in
        let scalar : all_scalars ((16 * v + digit_value x) ∷ []) ≡ true = scalar_test (16 * v + digit_value x) c value k.scalar in
        few_or_last count (all_scalars ((16 * v + digit_value x) ∷ [])) scalar (omega (arith, k.few, ap length g, length-append ds (x ∷ []), a.counted))
    last k (y ∷ es) h g =
        let few : nat_lt count 5 ≡ true = lt-ltb count 5 (omega (arith, k.few, ap length g, length-append ds (x ∷ y ∷ es), a.counted)) in
        rw few

    by_goes : (k : IsClosed x c ds) → Goes x ds k.digits → ⊥
    by_goes k (inl g) = clash (x == 125) (eq-eqb x 125 g.0) e
    by_goes k (inr g) = clash _ (both (is_ascii_hexdigit x) _ g.0 (last k g.1.0 g.0 g.1.1)) t
