-- The escapes that some bytes are, and that their code points are Unicode scalar values.
use Rattle.std.proofs.Common.{◌≡◌, ℕ, ◌+◌, ◌*◌, ◌<◌, ◌≤◌, ◌⊎◌, Bool, true, ◌==◌, ◌&&◌, List, [], ◌∷◌, ◌++◌, length, Option, Some, None, refl, ap, ◌∙◌}
use Rattle.std.proofs.Common.{inl, inr, append_assoc, arith}
use Rattle.std.proofs.Math.Utf8.{low_scalar}
use Rattle.std.proofs.lemmas.Bool.{cases_Bool, and_parts}
use Rattle.std.proofs.lemmas.Bool.Decides.{nat_tests}
use Rattle.std.specs.Char.{IsScalar, is_ascii_hexdigit}
use Rattle.text_model.specs.Characters.{each, EndsBefore, is_octal, digit_value, number_in, escape_of, Escapes}
use Rattle.text_model.proofs.Comes.{AreDigits}
use Rattle.text_model.proofs.ComesTokens.{by_test}
use Rattle.text_model.proofs.OneMore.{both}

-- no octal digit has a meaning of its own behind a backslash
pub no_octal : (x : ℕ) → is_octal x ≡ true → escape_of x ≡ None
no_octal x e = grind (arith, nat_tests)

-- ---- code points

octal_digit : (x : ℕ) → is_octal x ≡ true → digit_value x < 8
octal_digit x e = grind (arith, nat_tests)

pub hex_digit : (x : ℕ) → is_ascii_hexdigit x ≡ true → digit_value x < 16
hex_digit x e = grind (arith, nat_tests)

octal_below : (ds : List ℕ) → each is_octal ds ≡ true → length ds ≤ 3 → number_in 8 ds < 512
octal_below [] e h = omega arith
octal_below (a ∷ []) e h = omega (arith, octal_digit a (and_parts (is_octal a) true e).0)
octal_below (a ∷ b ∷ []) e h =
    let p = and_parts (is_octal a) (each is_octal (b ∷ [])) e in
    let q = and_parts (is_octal b) true p.1 in
    omega (arith, octal_digit a p.0, octal_digit b q.0)
octal_below (a ∷ b ∷ c ∷ []) e h =
    let p = and_parts (is_octal a) (each is_octal (b ∷ c ∷ [])) e in
    let q = and_parts (is_octal b) (each is_octal (c ∷ [])) p.1 in
    let r = and_parts (is_octal c) true q.1 in
    omega (arith, octal_digit a p.0, octal_digit b q.0, octal_digit c r.0)
octal_below (a ∷ b ∷ c ∷ d ∷ ds) e h = absurd (omega arith)

pub octal_scalar : (v count : ℕ) (ds : List ℕ) → AreDigits 8 is_octal v count ds → count ≤ 3 → IsScalar v
octal_scalar v count ds a h = low_scalar v (omega (arith, octal_below ds a.pass (omega (arith, a.counted)), a.value))

pub pair_scalar : (h l : ℕ) → is_ascii_hexdigit h ≡ true → is_ascii_hexdigit l ≡ true → IsScalar (16 * digit_value h + digit_value l)
pair_scalar h l e f = low_scalar (16 * digit_value h + digit_value l) (omega (arith, hex_digit h e, hex_digit l f))

abbrev AreScalar : Option ℕ → Type 0
AreScalar o = (c : ℕ) → o ≡ Some c → IsScalar c

known : (k : ℕ) → k < 55296 → AreScalar (Some k)
known k h c e = let same : k ≡ c = cc in low_scalar c (omega arith)

no_letter : AreScalar None
no_letter c e = cc

pub letter_scalar : (x : ℕ) → AreScalar (escape_of x)
letter_scalar x =
    by_test AreScalar (x == 92) _ _ (λ _. known 92 (omega arith)) (λ _.
    by_test AreScalar (x == 39) _ _ (λ _. known 39 (omega arith)) (λ _.
    by_test AreScalar (x == 34) _ _ (λ _. known 34 (omega arith)) (λ _.
    by_test AreScalar (x == 110) _ _ (λ _. known 10 (omega arith)) (λ _.
    by_test AreScalar (x == 116) _ _ (λ _. known 9 (omega arith)) (λ _.
    by_test AreScalar (x == 114) _ _ (λ _. known 13 (omega arith)) (λ _.
    by_test AreScalar (x == 98) _ _ (λ _. known 8 (omega arith)) (λ _.
    by_test AreScalar (x == 100) _ _ (λ _. known 127 (omega arith)) (λ _.
    by_test AreScalar (x == 101) _ _ (λ _. known 27 (omega arith)) (λ _.
    by_test AreScalar (x == 102) _ _ (λ _. known 12 (omega arith)) (λ _.
    by_test AreScalar (x == 115) _ _ (λ _. known 32 (omega arith)) (λ _.
    by_test AreScalar (x == 118) _ _ (λ _. known 11 (omega arith)) (λ _. no_letter))))))))))))

-- ---- escapes

pub octal_escape : (v count : ℕ) (ds more : List ℕ) → AreDigits 8 is_octal v count ds → 1 ≤ count → count ≤ 3
    → (count ≡ 3) ⊎ EndsBefore is_octal more → Escapes v (ds ++ more) more
octal_escape v count ds more a some few ends = inr (inl (record {
  digits = ds;
  some = omega (arith, a.counted);
  few = omega (arith, a.counted);
  octal = a.pass;
  value = a.value;
  whole = refl;
  longest = longest ends;
}))
  where
    longest : (count ≡ 3) ⊎ EndsBefore is_octal more → (length ds ≡ 3) ⊎ EndsBefore is_octal more
    longest (inl e) = inl (a.counted ∙ e)
    longest (inr e) = inr e

pub pair_escape : (h l : ℕ) (more : List ℕ) → is_ascii_hexdigit h ≡ true → is_ascii_hexdigit l ≡ true
    → Escapes (16 * digit_value h + digit_value l) ((120 ∷ h ∷ l ∷ []) ++ more) more
pair_escape h l more e f = inr (inr (inl (record {
  high = h;
  low = l;
  hexadecimal = both (is_ascii_hexdigit h) (is_ascii_hexdigit l && true) e (both (is_ascii_hexdigit l) true f refl);
  value = omega arith;
  whole = refl;
})))

pub braced_escape : (v count : ℕ) (ds more : List ℕ) → AreDigits 16 is_ascii_hexdigit v count ds → 1 ≤ count → count ≤ 6 → IsScalar v
    → Escapes v ((120 ∷ 123 ∷ (ds ++ 125 ∷ [])) ++ more) more
braced_escape v count ds more a some few scalar = inr (inr (inr (record {
  digits = ds;
  some = omega (arith, a.counted);
  few = omega (arith, a.counted);
  hexadecimal = a.pass;
  value = a.value;
  scalar = scalar;
  whole = ap (λ l. 120 ∷ 123 ∷ l) (append_assoc ds (125 ∷ []) more);
})))

pub one_digit : (base : ℕ) (test : ℕ → Bool) (x : ℕ) → test x ≡ true → AreDigits base test (digit_value x) 1 (x ∷ [])
one_digit base test x e = record {
  pass = both (test x) true e refl;
  counted = refl;
  value = omega arith;
}

-- ---- one octal digit is an escape, whatever follows

abbrev pub OctalBegins : List ℕ → Type 0
OctalBegins bytes = (c : ℕ) × (behind : List ℕ) × Escapes c bytes behind

digits_of : (ds : List ℕ) → each is_octal ds ≡ true → AreDigits 8 is_octal (number_in 8 ds) (length ds) ds
digits_of ds e = record { pass = e; counted = refl; value = refl }

octal_of : (ds more : List ℕ) → each is_octal ds ≡ true → 1 ≤ length ds → length ds ≤ 3 → (length ds ≡ 3) ⊎ EndsBefore is_octal more → OctalBegins (ds ++ more)
octal_of ds more e some few ends = (number_in 8 ds, more, octal_escape (number_in 8 ds) (length ds) ds more (digits_of ds e) some few ends)

third_octal : (x y : ℕ) (more : List ℕ) → each is_octal (x ∷ y ∷ []) ≡ true → OctalBegins (x ∷ y ∷ more)
third_octal x y [] e = octal_of (x ∷ y ∷ []) [] e (omega arith) (omega arith) (inr tt)
third_octal x y (z ∷ more) e =
    let p = and_parts (is_octal x) (each is_octal (y ∷ [])) e in
    let q = and_parts (is_octal y) true p.1 in
    elim (cases_Bool (is_octal z)) [
      | inl o ↦ octal_of (x ∷ y ∷ z ∷ []) more (both (is_octal x) (each is_octal (y ∷ z ∷ [])) p.0
          (both (is_octal y) (each is_octal (z ∷ [])) q.0 (both (is_octal z) true o refl))) (omega arith) (omega arith) (inl refl)
      | inr o ↦ octal_of (x ∷ y ∷ []) (z ∷ more) e (omega arith) (omega arith) (inr o)
    ]

pub octal_begins : (x : ℕ) (more : List ℕ) → is_octal x ≡ true → OctalBegins (x ∷ more)
octal_begins x [] e = octal_of (x ∷ []) [] (both (is_octal x) true e refl) (omega arith) (omega arith) (inr tt)
octal_begins x (y ∷ more) e =
    elim (cases_Bool (is_octal y)) [
      | inl o ↦ third_octal x y more (both (is_octal x) (each is_octal (y ∷ [])) e (both (is_octal y) true o refl))
      | inr o ↦ octal_of (x ∷ []) (y ∷ more) (both (is_octal x) true e refl) (omega arith) (omega arith) (inr o)
    ]
