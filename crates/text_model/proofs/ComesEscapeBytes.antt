-- A byte behind a backslash in quotes.
use Rattle.std.proofs.Common.{◌≡◌, ℕ, ◌+◌, ◌*◌, ◌<◌, ◌≤◌, ◌⊎◌, Bool, true, false, cond, ◌==◌, ◌&&◌, ◌||◌, nat_lt, List, [], ◌∷◌, ◌++◌, length, Option}
use Rattle.std.proofs.Common.{Some, None, eqb-true, ltb-true, refl, ap, sym, subst, inl, inr, append_assoc, arith}
use Rattle.std.proofs.lemmas.Bool.{and_parts}
use Rattle.std.proofs.lemmas.Bool.Decides.{nat_tests}
use Rattle.std.specs.Char.{IsScalar, is_ascii_hexdigit}
use Rattle.std.specs.Str.{all_scalars}
use Rattle.text_model.specs.declared.fault.TextWhy.{TextWhy}
use Rattle.text_model.specs.declared.fault.TextWhy.TheVariants.{BadToken}
use Rattle.text_model.specs.Characters.{is_octal, digit_value, escape_of, Escapes, IsCharacter}
use Rattle.text_model.specs.Nest.{Nest}
use Rattle.text_model.specs.Reader.{Quotes, half, braced, may_have, push, in_character, quote_of, begin_octal, escaped, begin_escape, octal_led}
use Rattle.text_model.specs.Reader.{braced_led, bad}
use Rattle.text_model.proofs.Comes.{IsInQuotes, AreDigits}
use Rattle.text_model.proofs.ComesRows.{Row, full_row, escape_row, Leads}
use Rattle.text_model.proofs.ComesTokens.{by_test}
use Rattle.text_model.proofs.OneMore.{are_digits_push}
use Rattle.text_model.proofs.ComesQuotes.{quotes_push, push_leads, quotes_same, begin_character_leads}
use Rattle.text_model.proofs.ComesEscapes.{octal_scalar, pair_scalar, letter_scalar, octal_escape, pair_escape, braced_escape, one_digit, octal_begins}
use Rattle.text_model.proofs.ComesBadEscapes.{IsBad, bad_first, bad_second, bad_third, bad_brace, bad_digit}

-- an escape is a character
as_character : (q : Quotes) (c : ℕ) (escape rest : List ℕ) → Escapes c escape rest → IsCharacter (quote_of q) c (92 ∷ escape) rest
as_character q c escape rest e = inr (escape, refl, e)

escape_leads : (p : List ℕ) (n : Nest) (start : ℕ) (q : Quotes) (cs escape : List ℕ) (c : ℕ) → IsInQuotes p n start q cs (92 ∷ escape) → IsScalar c
    → ((more : List ℕ) → Escapes c (escape ++ more) more) → Leads p (push n start q cs c)
escape_leads p n start q cs escape c i scalar is =
    push_leads p n start q cs (92 ∷ escape) c i scalar (λ more. as_character q c (escape ++ more) more (is more))

bad_leads : (p : List ℕ) (n : Nest) (start : ℕ) (q : Quotes) (cs escape : List ℕ) → IsInQuotes p n start q cs (92 ∷ escape) → IsBad escape
    → Row p start BadToken
bad_leads p n start q cs escape i is_bad = escape_row (record {
  nest = n;
  quotes = q;
  characters = cs;
  escape = escape;
  inside = i;
  bad = is_bad;
  reason = refl;
})

-- ---- behind a backslash

octal_by : (p : List ℕ) (n : Nest) (start : ℕ) (q : Quotes) (cs : List ℕ) (x : ℕ) (o : Option TextWhy) → IsInQuotes p n start q cs (92 ∷ x ∷ [])
    → is_octal x ≡ true → may_have n q cs ≡ o → Leads p (begin_octal n start q cs x o)
octal_by p n start q cs x None i e f = (92 ∷ x ∷ [], i, (x ∷ [], refl, one_digit 8 is_octal x e, omega arith, omega arith, f))
octal_by p n start q cs x (Some why) i e f = full_row (record {
  nest = n;
  quotes = q;
  characters = cs;
  pending = 92 ∷ x ∷ [];
  inside = i;
  one_more = λ more.
      let is = octal_begins x more e in
      (is.0, is.1, as_character q is.0 (x ∷ more) is.1 is.2);
  refused = f;
})

letter_by : (p : List ℕ) (n : Nest) (start : ℕ) (q : Quotes) (cs : List ℕ) (x : ℕ) (o : Option ℕ) → IsInQuotes p n start q cs (92 ∷ x ∷ [])
    → is_octal x ≡ false → (x == 120) ≡ false → escape_of x ≡ o → Leads p (escaped n start q cs o)
letter_by p n start q cs x None i e f g = bad_leads p n start q cs (x ∷ []) i (bad_first x e f g)
letter_by p n start q cs x (Some c) i e f g =
    escape_leads p n start q cs (x ∷ []) c i (letter_scalar x c g) (λ more. inl (x, refl, g))

pub begin_escape_leads : (p : List ℕ) (n : Nest) (start : ℕ) (q : Quotes) (cs : List ℕ) (x : ℕ) → IsInQuotes p n start q cs (92 ∷ x ∷ [])
    → Leads p (begin_escape n start q cs x)
begin_escape_leads p n start q cs x i =
    by_test (Leads p) (is_octal x) _ _
    (λ e. octal_by p n start q cs x (may_have n q cs) i e refl)
    (λ e. by_test (Leads p) (x == 120) _ _
    (λ f. (92 ∷ 120 ∷ [], quotes_same p n start q cs _ _ (ap (λ y. 92 ∷ y ∷ []) (eqb-true x 120 f)) i, refl))
    (λ f. letter_by p n start q cs x (escape_of x) i e f refl))

-- ---- behind octal digits

octal_ended : (q : Quotes) (v count x : ℕ) (ds more : List ℕ) → AreDigits 8 is_octal v count ds → 1 ≤ count → count ≤ 2 → is_octal x ≡ false
    → IsCharacter (quote_of q) v ((92 ∷ (ds ++ x ∷ [])) ++ more) (x ∷ more)
octal_ended q v count x ds more a some few e =
    as_character q v ((ds ++ x ∷ []) ++ more) (x ∷ more)
    (subst (λ l. Escapes v l (x ∷ more)) (sym (append_assoc ds (x ∷ []) more))
    (octal_escape v count ds (x ∷ more) a some (omega arith) (inr e)))

pub octal_leads : (p : List ℕ) (n : Nest) (start at : ℕ) (q : Quotes) (cs : List ℕ) (v count x : ℕ) (ds : List ℕ)
    → IsInQuotes p n start q cs (92 ∷ (ds ++ x ∷ [])) → AreDigits 8 is_octal v count ds → 1 ≤ count → count ≤ 2 → may_have n q cs ≡ None
    → length p ≡ at + 1 → Leads p (octal_led n start at q cs v count x)
octal_leads p n start at q cs v count x ds i a some few may there =
    by_test (Leads p) (is_octal x) _ _
    (λ e. let next = are_digits_push 8 is_octal v count ds x a e in
    by_test (Leads p) (count == 1) _ _
    (λ f. let two : count + 1 ≡ 2 = ap (λ k. k + 1) (eqb-true count 1 f) in (
      92 ∷ (ds ++ x ∷ []),
      i,
      (
        ds ++ x ∷ [],
        refl,
        subst (λ k. AreDigits 8 is_octal (8 * v + digit_value x) k (ds ++ x ∷ [])) two next,
        omega arith,
        omega arith,
        may,
      ),
    ))
    (λ f. let three : count + 1 ≡ 3 = third count some few f in
    escape_leads p n start q cs (ds ++ x ∷ []) (8 * v + digit_value x) i (octal_scalar (8 * v + digit_value x) (count + 1) (ds ++ x ∷ []) next (omega arith))
    (λ more. octal_escape (8 * v + digit_value x) (count + 1) (ds ++ x ∷ []) more next (omega arith) (omega arith) (inl three))))
    (λ e. begin_character_leads p n start at q (cs ++ v ∷ []) x
    (quotes_push p n start q cs (92 ∷ (ds ++ x ∷ [])) (x ∷ []) v i (octal_scalar v count ds a (omega arith))
    (λ more. octal_ended q v count x ds more a some few e) may) there)
  where
    third : (count : ℕ) → 1 ≤ count → count ≤ 2 → (count == 1) ≡ false → count + 1 ≡ 3
    third count some few f = grind (arith, nat_tests)

-- ---- behind `\x`

pub hexadecimal_leads : (p : List ℕ) (n : Nest) (start : ℕ) (q : Quotes) (cs : List ℕ) (x : ℕ) → IsInQuotes p n start q cs (92 ∷ 120 ∷ x ∷ [])
    → Leads p (cond (is_ascii_hexdigit x) (in_character n start q cs (half (digit_value x)))
    (cond (x == 123) (in_character n start q cs (braced 0 0)) (bad start)))
hexadecimal_leads p n start q cs x i =
    by_test (Leads p) (is_ascii_hexdigit x) _ _
    (λ e. (92 ∷ 120 ∷ x ∷ [], i, (x ∷ [], refl, one_digit 16 is_ascii_hexdigit x e)))
    (λ e. by_test (Leads p) (x == 123) _ _
    (λ f. (
      92 ∷ 120 ∷ 123 ∷ [],
      quotes_same p n start q cs _ _ (ap (λ y. 92 ∷ 120 ∷ y ∷ []) (eqb-true x 123 f)) i,
      ([], refl, record { pass = refl; counted = refl; value = refl }, omega arith, λ six. absurd (omega arith)),
    ))
    (λ f. bad_leads p n start q cs (120 ∷ x ∷ []) i (bad_second x e f)))

-- a digit alone
record IsDigit (v : ℕ) (ds : List ℕ) : Type 0 where
  digit : ℕ
  alone : ds ≡ digit ∷ []
  hex : is_ascii_hexdigit digit ≡ true
  value : v ≡ digit_value digit

the_digit : (v : ℕ) (ds : List ℕ) → AreDigits 16 is_ascii_hexdigit v 1 ds → IsDigit v ds
the_digit v [] a = absurd (omega (arith, a.counted))
the_digit v (h ∷ []) a = record {
  digit = h;
  alone = refl;
  hex = (and_parts (is_ascii_hexdigit h) true a.pass).0;
  value = omega (arith, a.value);
}
the_digit v (h ∷ k ∷ ds) a = absurd (omega (arith, a.counted))

pub half_leads : (p : List ℕ) (n : Nest) (start : ℕ) (q : Quotes) (cs : List ℕ) (v x : ℕ) (ds : List ℕ)
    → IsInQuotes p n start q cs (92 ∷ 120 ∷ (ds ++ x ∷ [])) → AreDigits 16 is_ascii_hexdigit v 1 ds
    → Leads p (cond (is_ascii_hexdigit x) (push n start q cs (16 * v + digit_value x)) (bad start))
half_leads p n start q cs v x ds i a =
    let d = the_digit v ds a in
    let j = quotes_same p n start q cs _ (92 ∷ 120 ∷ d.digit ∷ x ∷ []) (ap (λ l. 92 ∷ 120 ∷ (l ++ x ∷ [])) d.alone) i in
    by_test (Leads p) (is_ascii_hexdigit x) _ _
    (λ e. subst (λ k. Leads p (push n start q cs (16 * k + digit_value x))) (sym d.value)
    (escape_leads p n start q cs (120 ∷ d.digit ∷ x ∷ []) (16 * digit_value d.digit + digit_value x) j (pair_scalar d.digit x d.hex e)
    (λ more. pair_escape d.digit x more d.hex e)))
    (λ e. bad_leads p n start q cs (120 ∷ d.digit ∷ x ∷ []) j (bad_third d.digit x d.hex e))

-- ---- behind `\x{`

pub last_scalar : (count v : ℕ) → (nat_lt count 5 || ((count == 5) && all_scalars (v ∷ []))) ≡ true → (count + 1 ≤ 6) × (count + 1 ≡ 6 → IsScalar v)
last_scalar count v e = by_case (either (nat_lt count 5) ((count == 5) && all_scalars (v ∷ [])) e)
  where
    either : (a b : Bool) → (a || b) ≡ true → (a ≡ true) ⊎ (b ≡ true)
    either true b e = inl refl
    either false b e = inr e

    by_case : (nat_lt count 5 ≡ true) ⊎ (((count == 5) && all_scalars (v ∷ [])) ≡ true) → (count + 1 ≤ 6) × (count + 1 ≡ 6 → IsScalar v)
    by_case (inl f) = let few : count < 5 = ltb-true count 5 f in (omega arith, λ six. absurd (omega arith))
    by_case (inr f) =
        let parts = and_parts (count == 5) (all_scalars (v ∷ [])) f in
        let five : count ≡ 5 = eqb-true count 5 parts.0 in
        (omega arith, λ six. (and_parts _ true parts.1).0)

pub braced_leads : (p : List ℕ) (n : Nest) (start : ℕ) (q : Quotes) (cs : List ℕ) (v count x : ℕ) (ds : List ℕ)
    → IsInQuotes p n start q cs (92 ∷ 120 ∷ 123 ∷ (ds ++ x ∷ [])) → AreDigits 16 is_ascii_hexdigit v count ds → count ≤ 6
    → Leads p (braced_led n start q cs v count x)
braced_leads p n start q cs v count x ds i a few =
    by_test (Leads p) (x == 125) _ _
    (λ e. let j = quotes_same p n start q cs _ (92 ∷ 120 ∷ 123 ∷ (ds ++ 125 ∷ [])) (ap (λ y. 92 ∷ 120 ∷ 123 ∷ (ds ++ y ∷ [])) (eqb-true x 125 e)) i in
    by_test (Leads p) (nat_lt 0 count && all_scalars (v ∷ [])) _ _
    (λ t. let parts = and_parts (nat_lt 0 count) (all_scalars (v ∷ [])) t in
    let some : 0 < count = ltb-true 0 count parts.0 in
    let scalar : IsScalar v = (and_parts _ true parts.1).0 in
    escape_leads p n start q cs (120 ∷ 123 ∷ (ds ++ 125 ∷ [])) v j scalar (λ more. braced_escape v count ds more a some few scalar))
    (λ t. bad_leads p n start q cs (120 ∷ 123 ∷ (ds ++ 125 ∷ [])) j (bad_brace v count ds a t)))
    (λ e. by_test (Leads p) (is_ascii_hexdigit x && (nat_lt count 5 || ((count == 5) && all_scalars ((16 * v + digit_value x) ∷ [])))) _ _
    (λ t. let parts = and_parts (is_ascii_hexdigit x) _ t in
    let last = last_scalar count (16 * v + digit_value x) parts.1 in
    (92 ∷ 120 ∷ 123 ∷ (ds ++ x ∷ []), i, (ds ++ x ∷ [], refl, are_digits_push 16 is_ascii_hexdigit v count ds x a parts.0, last.0, last.1)))
    (λ t. bad_leads p n start q cs (120 ∷ 123 ∷ (ds ++ x ∷ [])) i (bad_digit v count x ds a e t)))
