-- Escapes in quotes are read up to their last byte.
use Rattle.std.proofs.Common.{◌≡◌, ℕ, ◌+◌, ◌*◌, ◌≤◌, ◌<◌, ◌⊎◌, inl, inr, Bool, true, false, ◌==◌, ◌&&◌, ◌||◌, nat_lt, List, [], ◌∷◌, ◌++◌, length}
use Rattle.std.proofs.Common.{Some, None, eqb-true, lt-ltb, refl, ap, ◌∙◌, sym, subst, arith}
use Rattle.std.proofs.lemmas.Bool.{and_parts}
use Rattle.std.specs.Char.{IsScalar, is_ascii_hexdigit}
use Rattle.std.specs.Str.{all_scalars}
use Rattle.text_model.specs.Characters.{each, EndsBefore, is_octal, digit_value, digits_behind, number_in, escape_of, IsOctal, IsPair, IsBraced, IsLetter}
use Rattle.text_model.specs.Nest.{Nest}
use Rattle.text_model.specs.Reader.{nothing, backslash, octal, hexadecimal, half, braced, Quotes, may_have, push, in_character, begin_octal}
use Rattle.text_model.specs.Reader.{begin_escape, in_quotes}
use Rattle.text_model.proofs.Comes.{IsGoing}
use Rattle.text_model.proofs.OneMore.{both}
use Rattle.text_model.proofs.ComesBadEscapes.{hex_parts, scalar_test, few_or_last}
use Rattle.text_model.proofs.QuotesSteps.{between_quotes, Pushes, pushes_last, pushes_more, pushes_reads}
use Rattle.text_model.proofs.RunSteps.{Reads, reads_more, run_alike}
use Rattle.text_model.proofs.ComesEscapes.{no_octal}

-- ---- one letter

octal_or_not : (x c : ℕ) (b : Bool) → is_octal x ≡ b → escape_of x ≡ Some c → is_octal x ≡ false
octal_or_not x c true e f = let none : None ≡ Some c = sym (no_octal x e) ∙ f in cc
octal_or_not x c false e f = e

x_or_not : (x c : ℕ) (b : Bool) → (x == 120) ≡ b → escape_of x ≡ Some c → (x == 120) ≡ false
x_or_not x c true e f = let none : None ≡ Some c = sym (ap escape_of (eqb-true x 120 e)) ∙ f in cc
x_or_not x c false e f = e

pub letter_pushes : (n : Nest) (start : ℕ) (q : Quotes) (cs : List ℕ) (c at : ℕ) (bytes rest : List ℕ) → IsGoing n → IsLetter c bytes rest
    → Pushes n start q cs c backslash at bytes rest
letter_pushes n start q cs c at bytes rest going (x, whole, e) =
    let no_digit = octal_or_not x c (is_octal x) refl e in
    let no_x = x_or_not x c (x == 120) refl e in
    let led : begin_escape n start q cs x ≡ push n start q cs c = rw (no_digit, no_x, e) in
    subst (λ l. Pushes n start q cs c backslash at l rest) (sym whole) (pushes_last n start q cs c backslash at x rest going led)

-- ---- octal digits

octal_goes : (n : Nest) (start : ℕ) (q : Quotes) (cs : List ℕ) (x : ℕ) → is_octal x ≡ true → may_have n q cs ≡ None
    → begin_escape n start q cs x ≡ in_character n start q cs (octal (digit_value x) 1)
octal_goes n start q cs x e may = rw e (ap (begin_octal n start q cs x) may)

-- digits that the next byte ends
octal_ends : (n : Nest) (start at : ℕ) (q : Quotes) (cs : List ℕ) (v count y : ℕ) (rest : List ℕ) → is_octal y ≡ false
    → Reads (between_quotes n start q cs (octal v count)) at (y ∷ rest) (between_quotes n start q (cs ++ v ∷ []) nothing) (y ∷ rest)
octal_ends n start at q cs v count y rest e = record {
  to = at;
  offset = refl;
  same = run_alike n (in_quotes start q cs (octal v count)) (in_quotes start q (cs ++ v ∷ []) nothing) at y rest (rw e refl);
}

octal_digits_read : (n : Nest) (start : ℕ) (q : Quotes) (cs : List ℕ) (c at : ℕ) (ds rest : List ℕ) → IsGoing n → may_have n q cs ≡ None → 0 < length rest
    → 1 ≤ length ds → length ds ≤ 3 → each is_octal ds ≡ true → c ≡ number_in 8 ds → (length ds ≡ 3) ⊎ EndsBefore is_octal rest
    → Reads (between_quotes n start q cs backslash) at (ds ++ rest) (between_quotes n start q (cs ++ c ∷ []) nothing) rest
octal_digits_read n start q cs c at ds [] going may more some few pass value longest = absurd (omega arith)
octal_digits_read n start q cs c at [] (y ∷ rest) going may more some few pass value longest = absurd (omega arith)
octal_digits_read n start q cs c at (x ∷ []) (y ∷ rest) going may more some few pass value (inl three) = absurd (omega arith)
octal_digits_read n start q cs c at (x ∷ []) (y ∷ rest) going may more some few pass value (inr ends) =
    let is : digit_value x ≡ c = omega (arith, value) in
    subst (λ k. Reads (between_quotes n start q cs backslash) at (x ∷ y ∷ rest) (between_quotes n start q (cs ++ k ∷ []) nothing) (y ∷ rest)) is
    (reads_more n (in_quotes start q cs backslash) (in_quotes start q cs (octal (digit_value x) 1))
    (between_quotes n start q (cs ++ digit_value x ∷ []) nothing) at x (y ∷ rest) (y ∷ rest) going
    (octal_goes n start q cs x (and_parts (is_octal x) true pass).0 may) (octal_ends n start (at + 1) q cs (digit_value x) 1 y rest ends))
octal_digits_read n start q cs c at (x ∷ z ∷ []) (y ∷ rest) going may more some few pass value (inl three) = absurd (omega arith)
octal_digits_read n start q cs c at (x ∷ z ∷ []) (y ∷ rest) going may more some few pass value (inr ends) =
    let is : 8 * digit_value x + digit_value z ≡ c = omega (arith, value) in
    let first = and_parts (is_octal x) (each is_octal (z ∷ [])) pass in
    let second = (and_parts (is_octal z) true first.1).0 in
    subst (λ k. Reads (between_quotes n start q cs backslash) at (x ∷ z ∷ y ∷ rest) (between_quotes n start q (cs ++ k ∷ []) nothing) (y ∷ rest)) is
    (reads_more n (in_quotes start q cs backslash) (in_quotes start q cs (octal (digit_value x) 1))
    (between_quotes n start q (cs ++ (8 * digit_value x + digit_value z) ∷ []) nothing) at x (z ∷ y ∷ rest) (y ∷ rest) going
    (octal_goes n start q cs x first.0 may)
    (reads_more n (in_quotes start q cs (octal (digit_value x) 1)) (in_quotes start q cs (octal (8 * digit_value x + digit_value z) 2))
    (between_quotes n start q (cs ++ (8 * digit_value x + digit_value z) ∷ []) nothing) (at + 1) z (y ∷ rest) (y ∷ rest) going (rw second)
    (octal_ends n start (at + 1 + 1) q cs (8 * digit_value x + digit_value z) 2 y rest ends)))
octal_digits_read n start q cs c at (x ∷ z ∷ w ∷ []) (y ∷ rest) going may more some few pass value longest =
    let v = 8 * digit_value x + digit_value z in
    let is : 8 * v + digit_value w ≡ c = omega (arith, value) in
    let first = and_parts (is_octal x) (each is_octal (z ∷ w ∷ [])) pass in
    let second = and_parts (is_octal z) (each is_octal (w ∷ [])) first.1 in
    let third = (and_parts (is_octal w) true second.1).0 in
    subst (λ k. Reads (between_quotes n start q cs backslash) at (x ∷ z ∷ w ∷ y ∷ rest) (between_quotes n start q (cs ++ k ∷ []) nothing) (y ∷ rest)) is
    (reads_more n (in_quotes start q cs backslash) (in_quotes start q cs (octal (digit_value x) 1))
    (between_quotes n start q (cs ++ (8 * v + digit_value w) ∷ []) nothing) at x (z ∷ w ∷ y ∷ rest) (y ∷ rest) going
    (octal_goes n start q cs x first.0 may)
    (reads_more n (in_quotes start q cs (octal (digit_value x) 1)) (in_quotes start q cs (octal v 2))
    (between_quotes n start q (cs ++ (8 * v + digit_value w) ∷ []) nothing) (at + 1) z (w ∷ y ∷ rest) (y ∷ rest) going (rw second.0)
    (pushes_reads n start q cs (8 * v + digit_value w) (octal v 2) (at + 1 + 1) (w ∷ y ∷ rest) (y ∷ rest)
    (pushes_last n start q cs (8 * v + digit_value w) (octal v 2) (at + 1 + 1) w (y ∷ rest) going (rw third)) may)))
octal_digits_read n start q cs c at (x ∷ z ∷ w ∷ u ∷ ds) (y ∷ rest) going may more some few pass value longest = absurd (omega arith)

-- one to three digits, where something follows
pub octal_reads : (n : Nest) (start : ℕ) (q : Quotes) (cs : List ℕ) (c at : ℕ) (bytes rest : List ℕ) → IsGoing n → may_have n q cs ≡ None → 0 < length rest
    → IsOctal c bytes rest → Reads (between_quotes n start q cs backslash) at bytes (between_quotes n start q (cs ++ c ∷ []) nothing) rest
octal_reads n start q cs c at bytes rest going may more o =
    subst (λ l. Reads (between_quotes n start q cs backslash) at l (between_quotes n start q (cs ++ c ∷ []) nothing) rest) (sym o.whole)
    (octal_digits_read n start q cs c at o.digits rest going may more o.some o.few o.octal o.value o.longest)

-- ---- hexadecimal digits

pub pair_pushes : (n : Nest) (start : ℕ) (q : Quotes) (cs : List ℕ) (c at : ℕ) (bytes rest : List ℕ) → IsGoing n → IsPair c bytes rest
    → Pushes n start q cs c backslash at bytes rest
pair_pushes n start q cs c at bytes rest going p =
    let digits = hex_parts p.high p.low p.hexadecimal in
    let is : 16 * digit_value p.high + digit_value p.low ≡ c = omega (arith, p.value) in
    subst (λ l. Pushes n start q cs c backslash at l rest) (sym p.whole)
    (pushes_more n start q cs c backslash hexadecimal at 120 (p.high ∷ p.low ∷ rest) rest going refl
    (pushes_more n start q cs c hexadecimal (half (digit_value p.high)) (at + 1) p.high (p.low ∷ rest) rest going (rw digits.0)
    (pushes_last n start q cs c (half (digit_value p.high)) (at + 1 + 1) p.low rest going (rw digits.1 (ap (push n start q cs) is)))))

no_brace : (x : ℕ) (b : Bool) → is_ascii_hexdigit x ≡ true → (x == 125) ≡ b → (x == 125) ≡ false
no_brace x true e f = let never : is_ascii_hexdigit 125 ≡ true = ap is_ascii_hexdigit (sym (eqb-true x 125 f)) ∙ e in cc
no_brace x false e f = f

-- one more digit may be there
digit_may : (c v count x : ℕ) (ds : List ℕ) → count + length (x ∷ ds) ≤ 6 → c ≡ digits_behind 16 v (x ∷ ds) → IsScalar c
    → (nat_lt count 5 || ((count == 5) && all_scalars ((16 * v + digit_value x) ∷ []))) ≡ true
digit_may c v count x [] few value scalar =
    few_or_last count (all_scalars ((16 * v + digit_value x) ∷ [])) (scalar_test (16 * v + digit_value x) c (sym value) scalar) (omega arith)
digit_may c v count x (y ∷ ds) few value scalar = rw (lt-ltb count 5 (omega arith))

digits_push_brace : (n : Nest) (start : ℕ) (q : Quotes) (cs : List ℕ) (c v count at : ℕ) (ds rest : List ℕ) → IsGoing n → each is_ascii_hexdigit ds ≡ true
    → count + length ds ≤ 6 → 1 ≤ count + length ds → c ≡ digits_behind 16 v ds → IsScalar c
    → Pushes n start q cs c (braced v count) at (ds ++ 125 ∷ rest) rest
digits_push_brace n start q cs c v count at [] rest going hex few some value scalar =
    let t : (nat_lt 0 count && all_scalars (v ∷ [])) ≡ true = both _ _ (lt-ltb 0 count (omega arith)) (scalar_test v c (sym value) scalar) in
    pushes_last n start q cs c (braced v count) at 125 rest going (rw t (ap (push n start q cs) (sym value)))
digits_push_brace n start q cs c v count at (x ∷ ds) rest going hex few some value scalar =
    let first = and_parts (is_ascii_hexdigit x) (each is_ascii_hexdigit ds) hex in
    let t = both (is_ascii_hexdigit x) _ first.0 (digit_may c v count x ds few value scalar) in
    pushes_more n start q cs c (braced v count) (braced (16 * v + digit_value x) (count + 1)) at x (ds ++ 125 ∷ rest) rest going
    (rw (no_brace x (x == 125) first.0 refl, t))
    (digits_push_brace n start q cs c (16 * v + digit_value x) (count + 1) (at + 1) ds rest going first.1 (omega arith) (omega arith) value scalar)

pub braced_pushes : (n : Nest) (start : ℕ) (q : Quotes) (cs : List ℕ) (c at : ℕ) (bytes rest : List ℕ) → IsGoing n → IsBraced c bytes rest
    → Pushes n start q cs c backslash at bytes rest
braced_pushes n start q cs c at bytes rest going b =
    subst (λ l. Pushes n start q cs c backslash at l rest) (sym b.whole)
    (pushes_more n start q cs c backslash hexadecimal at 120 (123 ∷ (b.digits ++ 125 ∷ rest)) rest going refl
    (pushes_more n start q cs c hexadecimal (braced 0 0) (at + 1) 123 (b.digits ++ 125 ∷ rest) rest going refl
    (digits_push_brace n start q cs c 0 0 (at + 1 + 1) b.digits rest going b.hexadecimal (omega (arith, b.few)) (omega (arith, b.some)) b.value b.scalar)))
