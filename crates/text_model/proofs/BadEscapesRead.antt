-- A backslash that begins no escape, whatever follows, comes with its fault before the bytes end.
use Rattle.std.proofs.Common.{◌≡◌, ⊎_elim, ℕ, ◌+◌, ◌*◌, ◌^◌, ◌≤◌, ◌<◌, inl, inr, true, false, ◌==◌, ◌&&◌, ◌||◌, nat_lt, List, [], ◌∷◌, ◌++◌, Option}
use Rattle.std.proofs.Common.{Some, None, eqb-true, ltb-true, add-one, refl, ap, ◌∙◌, sym, subst, append_assoc, append-nil, arith}
use Rattle.std.proofs.Math.Nat.{pow-succ', pow-le-pow_right}
use Rattle.std.proofs.Math.Utf8.{low_scalar}
use Rattle.std.proofs.lemmas.Bool.{cases_Bool, cases_lt, and_parts}
use Rattle.std.proofs.lemmas.Bool.Decides.{nat_tests}
use Rattle.std.specs.Char.{IsScalar, is_ascii_hexdigit}
use Rattle.std.specs.Str.{all_scalars}
use Rattle.text_model.specs.declared.fault.TextWhy.TheVariants.{BadToken}
use Rattle.text_model.specs.Characters.{is_octal, digit_value, escape_of, Escapes}
use Rattle.text_model.specs.Nest.{Nest}
use Rattle.text_model.specs.Reader.{nothing, backslash, hexadecimal, half, braced, Quotes, in_quotes, may_escape, escaped, outcome, faulty}
use Rattle.text_model.proofs.Comes.{IsGoing, AreDigits}
use Rattle.text_model.proofs.OneMore.{are_digits_push}
use Rattle.text_model.proofs.ComesEscapes.{hex_digit, pair_escape, braced_escape, octal_begins}
use Rattle.text_model.proofs.ComesEscapeBytes.{last_scalar}
use Rattle.text_model.proofs.ComesBadEscapes.{IsBad, clash, scalar_test}
use Rattle.text_model.proofs.QuotesSteps.{between_quotes}
use Rattle.text_model.proofs.CharactersRead.{escape_goes, no_escape_begins}
use Rattle.text_model.proofs.RunSteps.{led_fails, led_outcome}

-- no escape begins so
not_bad : (c : ℕ) (escape bytes more behind : List ℕ) → IsBad bytes → Escapes c escape behind → escape ≡ bytes ++ more → ⊥
not_bad c escape bytes more behind is_bad e same = is_bad more c behind (subst (λ l. Escapes c l behind) same e)

-- ---- digits in braces

next_below : (v d count : ℕ) → v < 16 ^ count → d < 16 → 16 * v + d < 16 ^ (count + 1)
next_below v d count h k =
    let power : 16 ^ (count + 1) ≡ 16 * 16 ^ count = ap (λ e. 16 ^ e) (add-one count) ∙ pow-succ' 16 count in
    omega arith

five_below : (v count : ℕ) → v < 16 ^ count → count ≤ 5 → v < 1048576
five_below v count h few =
    let power : 16 ^ count ≤ 16 ^ 5 = pow-le-pow_right (omega arith) few in
    omega arith

-- where such digits are of no scalar value, those with a zero behind them are
zero_behind : (v : ℕ) → v < 1048576 → all_scalars (v ∷ []) ≡ false → IsScalar (16 * v + 0)
zero_behind v h e = grind (arith, nat_tests)

-- a zero and the brace that closes behind them
zero_closes : (v count : ℕ) (ds : List ℕ) → AreDigits 16 is_ascii_hexdigit v count ds → count ≤ 5 → IsScalar (16 * v + 0)
    → IsBad (120 ∷ 123 ∷ (ds ++ [])) → ⊥
zero_closes v count ds a few scalar is_bad =
    not_bad (16 * v + 0) ((120 ∷ 123 ∷ ((ds ++ 48 ∷ []) ++ 125 ∷ [])) ++ []) (120 ∷ 123 ∷ (ds ++ [])) (48 ∷ 125 ∷ []) [] is_bad
    (braced_escape (16 * v + 0) (count + 1) (ds ++ 48 ∷ []) [] (are_digits_push 16 is_ascii_hexdigit v count ds 48 a refl) (omega arith) (omega arith) scalar)
    (ap (λ l. 120 ∷ 123 ∷ l) (simp (append_assoc, append-nil {A = ℕ})))

-- five of no scalar value at most, six of one at most
not_six : (v count : ℕ) → count ≤ 6 → (count ≡ 6 → IsScalar v) → all_scalars (v ∷ []) ≡ false → count ≤ 5
not_six v count few six t = ⊎_elim
    (λ (short : count < 6). omega arith)
    (λ (long : 6 ≤ count). let is : count ≡ 6 = omega arith in absurd (clash (all_scalars (v ∷ [])) (scalar_test v v refl (six is)) t))
    (cases_lt count 6)

-- digits in braces go on to an escape
braces_go_on : (v count : ℕ) (ds : List ℕ) → AreDigits 16 is_ascii_hexdigit v count ds → count ≤ 6 → (count ≡ 6 → IsScalar v) → v < 16 ^ count
    → IsBad (120 ∷ 123 ∷ (ds ++ [])) → ⊥
braces_go_on v count ds a few six below is_bad =
    elim (cases_Bool (all_scalars (v ∷ []))) [
      | inl t ↦ ⊎_elim
          (λ (some : 0 < count).
          let scalar : IsScalar v = (and_parts _ true t).0 in
          not_bad v ((120 ∷ 123 ∷ (ds ++ 125 ∷ [])) ++ []) (120 ∷ 123 ∷ (ds ++ [])) (125 ∷ []) [] is_bad (braced_escape v count ds [] a some few scalar)
          (ap (λ l. 120 ∷ 123 ∷ l) (simp (append_assoc, append-nil {A = ℕ}))))
          (λ (none : count ≤ 0).
          let zero_count : count ≡ 0 = omega arith in
          let low : v < 16 ^ 0 = subst (λ k. v < 16 ^ k) zero_count below in
          zero_closes v count ds a (omega arith) (low_scalar (16 * v + 0) (omega arith)) is_bad)
          (cases_lt 0 count)
      | inr t ↦
          let five = not_six v count few six t in
          zero_closes v count ds a five (zero_behind v (five_below v count below five) t) is_bad
    ]

-- what is read of some bytes that begin no escape
push_bad : (ds : List ℕ) (x : ℕ) (escape : List ℕ) → IsBad (120 ∷ 123 ∷ (ds ++ x ∷ escape)) → IsBad (120 ∷ 123 ∷ ((ds ++ x ∷ []) ++ escape))
push_bad ds x escape is_bad = subst (λ l. IsBad (120 ∷ 123 ∷ l)) (sym (append_assoc ds (x ∷ []) escape)) is_bad

braced_bad : (n : Nest) (start : ℕ) (q : Quotes) (cs : List ℕ) (at v count : ℕ) (ds escape : List ℕ) → IsGoing n → AreDigits 16 is_ascii_hexdigit v count ds
    → count ≤ 6 → (count ≡ 6 → IsScalar v) → v < 16 ^ count → IsBad (120 ∷ 123 ∷ (ds ++ escape))
    → outcome (between_quotes n start q cs (braced v count)) at escape ≡ faulty start BadToken
braced_bad n start q cs at v count ds [] going a few six below is_bad = absurd (braces_go_on v count ds a few six below is_bad)
braced_bad n start q cs at v count ds (x ∷ escape) going a few six below is_bad =
    elim (cases_Bool (x == 125)) [
      | inl e ↦ elim (cases_Bool (nat_lt 0 count && all_scalars (v ∷ []))) [
        | inl t ↦
            let parts = and_parts (nat_lt 0 count) (all_scalars (v ∷ [])) t in
            let scalar : IsScalar v = (and_parts _ true parts.1).0 in
            absurd (not_bad v ((120 ∷ 123 ∷ (ds ++ 125 ∷ [])) ++ escape) (120 ∷ 123 ∷ (ds ++ x ∷ escape)) [] escape is_bad
            (braced_escape v count ds escape a (ltb-true 0 count parts.0) few scalar)
            (ap (λ l. 120 ∷ 123 ∷ l) (append_assoc ds (125 ∷ []) escape ∙ ap (λ y. ds ++ y ∷ escape) (sym (eqb-true x 125 e))
            ∙ sym (append-nil (ds ++ x ∷ escape)))))
        | inr t ↦ led_fails n (in_quotes start q cs (braced v count)) at x start escape BadToken going (rw (e, t))
      ]
      | inr e ↦ elim (cases_Bool (is_ascii_hexdigit x && (nat_lt count 5 || ((count == 5) && all_scalars ((16 * v + digit_value x) ∷ []))))) [
        | inl t ↦
            let parts = and_parts (is_ascii_hexdigit x) _ t in
            let last = last_scalar count (16 * v + digit_value x) parts.1 in
            led_outcome n (in_quotes start q cs (braced v count)) (in_quotes start q cs (braced (16 * v + digit_value x) (count + 1))) at x escape going
            (rw (e, t))
            ∙ braced_bad n start q cs (at + 1) (16 * v + digit_value x) (count + 1) (ds ++ x ∷ []) escape going
            (are_digits_push 16 is_ascii_hexdigit v count ds x a parts.0) last.0 last.1 (next_below v (digit_value x) count below (hex_digit x parts.0))
            (push_bad ds x escape is_bad)
        | inr t ↦ led_fails n (in_quotes start q cs (braced v count)) at x start escape BadToken going (rw (e, t))
      ]
    ]

-- ---- a backslash

half_bad : (n : Nest) (start : ℕ) (q : Quotes) (cs : List ℕ) (at h : ℕ) (escape : List ℕ) → IsGoing n → is_ascii_hexdigit h ≡ true
    → IsBad (120 ∷ h ∷ escape) → outcome (between_quotes n start q cs (half (digit_value h))) at escape ≡ faulty start BadToken
half_bad n start q cs at h [] going e is_bad =
    absurd (is_bad (48 ∷ []) (16 * digit_value h + digit_value 48) [] (pair_escape h 48 [] e refl))
half_bad n start q cs at h (x ∷ escape) going e is_bad =
    elim (cases_Bool (is_ascii_hexdigit x)) [
      | inl t ↦ absurd (not_bad (16 * digit_value h + digit_value x) (120 ∷ h ∷ x ∷ escape) (120 ∷ h ∷ x ∷ escape) [] escape is_bad
          (pair_escape h x escape e t) (sym (append-nil (120 ∷ h ∷ x ∷ escape))))
      | inr t ↦ led_fails n (in_quotes start q cs (half (digit_value h))) at x start escape BadToken going (rw t)
    ]

x_bad : (n : Nest) (start : ℕ) (q : Quotes) (cs : List ℕ) (at : ℕ) (escape : List ℕ) → IsGoing n → IsBad (120 ∷ escape)
    → outcome (between_quotes n start q cs hexadecimal) at escape ≡ faulty start BadToken
x_bad n start q cs at [] going is_bad = absurd (is_bad (48 ∷ 48 ∷ []) (16 * digit_value 48 + digit_value 48) [] (pair_escape 48 48 [] refl refl))
x_bad n start q cs at (x ∷ escape) going is_bad =
    elim (cases_Bool (is_ascii_hexdigit x)) [
      | inl t ↦
          led_outcome n (in_quotes start q cs hexadecimal) (in_quotes start q cs (half (digit_value x))) at x escape going (rw t)
          ∙ half_bad n start q cs (at + 1) x escape going t is_bad
      | inr t ↦ elim (cases_Bool (x == 123)) [
        | inl e ↦
            led_outcome n (in_quotes start q cs hexadecimal) (in_quotes start q cs (braced 0 0)) at x escape going (rw (t, e))
            ∙ braced_bad n start q cs (at + 1) 0 0 [] escape going (record { pass = refl; counted = refl; value = refl }) (omega arith)
            (λ six. absurd (omega arith)) (omega arith) (subst (λ y. IsBad (120 ∷ y ∷ escape)) (eqb-true x 123 e) is_bad)
        | inr e ↦ led_fails n (in_quotes start q cs hexadecimal) at x start escape BadToken going (rw (t, e))
      ]
    ]

letter_bad : (n : Nest) (start : ℕ) (q : Quotes) (cs : List ℕ) (at x : ℕ) (escape : List ℕ) (o : Option ℕ) → IsGoing n → IsBad (x ∷ escape)
    → is_octal x ≡ false → (x == 120) ≡ false → escape_of x ≡ o → outcome (between_quotes n start q cs backslash) at (x ∷ escape) ≡ faulty start BadToken
letter_bad n start q cs at x escape (Some c) going is_bad t e f =
    absurd (not_bad c (x ∷ escape) (x ∷ escape) [] escape is_bad (inl (x, refl, f)) (sym (append-nil (x ∷ escape))))
letter_bad n start q cs at x escape None going is_bad t e f =
    led_fails n (in_quotes start q cs backslash) at x start escape BadToken going (rw (t, e) (ap (escaped n start q cs) f))

backslash_bad : (n : Nest) (start : ℕ) (q : Quotes) (cs : List ℕ) (at : ℕ) (escape : List ℕ) → IsGoing n → IsBad escape
    → outcome (between_quotes n start q cs backslash) at escape ≡ faulty start BadToken
backslash_bad n start q cs at [] going is_bad = absurd (is_bad (92 ∷ []) 92 [] (inl (92, refl, refl)))
backslash_bad n start q cs at (x ∷ escape) going is_bad =
    elim (cases_Bool (is_octal x)) [
      | inl t ↦
          let begins = octal_begins x escape t in
          absurd (not_bad begins.0 (x ∷ escape) (x ∷ escape) [] begins.1 is_bad begins.2 (sym (append-nil (x ∷ escape))))
      | inr t ↦ elim (cases_Bool (x == 120)) [
        | inl e ↦
            led_outcome n (in_quotes start q cs backslash) (in_quotes start q cs hexadecimal) at x escape going (rw (t, e))
            ∙ x_bad n start q cs (at + 1) escape going (subst (λ y. IsBad (y ∷ escape)) (eqb-true x 120 e) is_bad)
        | inr e ↦ letter_bad n start q cs at x escape (escape_of x) going is_bad t e refl
      ]
    ]

pub escape_fails : (n : Nest) (start : ℕ) (q : Quotes) (cs : List ℕ) (at : ℕ) (escape : List ℕ) → IsGoing n → IsBad escape
    → outcome (between_quotes n start q cs nothing) at (92 ∷ escape) ≡ faulty start BadToken
escape_fails n start q cs at escape going is_bad =
    elim (cases_Bool (may_escape q cs)) [
      | inl t ↦
          led_outcome n (in_quotes start q cs nothing) (in_quotes start q cs backslash) at 92 escape going (escape_goes n start at q cs t)
          ∙ backslash_bad n start q cs (at + 1) escape going is_bad
      | inr t ↦ led_fails n (in_quotes start q cs nothing) at 92 start escape BadToken going (no_escape_begins n start at q cs t)
    ]
