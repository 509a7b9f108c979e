-- A printed atom is a token of its characters, with quotes or without.
use Rattle.std.proofs.Common.{◌≡◌, ℕ, ◌/◌, ◌%◌, ◌<◌, ◌≤◌, true, not, ◌==◌, ⊎_elim, inl, inr, List, [], ◌∷◌, ◌++◌, length, flat_map, refl, ap, ◌∙◌}
use Rattle.std.proofs.Common.{sym, subst, append_assoc, eqb-true, arith, Some}
use Rattle.std.proofs.lemmas.Bool.{and_parts, cond_both, cases_lt, eqb-false, agree_below_at}
use Rattle.std.proofs.lemmas.Bool.Decides.{nat_tests}
use Rattle.std.proofs.lemmas.Fmt.{hex_one_digit, hex_two_digits}
use Rattle.std.specs.Char.{IsScalar, is_ascii_control, is_ascii_hexdigit}
use Rattle.std.specs.Str.{all_scalars}
use Rattle.std.specs.Fmt.{digits, digit_glyph}
use Rattle.text_model.specs.Token.{Token, is_plain_atom, plain, quoted}
use Rattle.text_model.specs.Characters.{each, digit_value, number_in, escape_of, IsBraced, IsCharacter, AreCharacters}
use Rattle.text_model.specs.Printed.{is_reserved, is_unquoted, quoted_character, quoted_atom, printed_atom}
use Rattle.text_model.proofs.OneMore.{both}
use Rattle.text_model.proofs.PrintedTokens.{IsApart, Shown, Prints, one_shown}

-- ---- characters in quotes

-- one or two hexadecimal digits of a code point
record Hexadecimal (c : ℕ) (ds : List ℕ) : Type 0 where
  some : 1 ≤ length ds
  few : length ds ≤ 6
  hexadecimal : each is_ascii_hexdigit ds ≡ true
  value : c ≡ number_in 16 ds

glyph_is : (d : ℕ) → d < 16 → is_ascii_hexdigit (digit_glyph true d) ≡ true
glyph_is d h = agree_below_at (λ e. is_ascii_hexdigit (digit_glyph true e)) (λ e. true) 16 d refl h

glyph_has : (d : ℕ) → d < 16 → digit_value (digit_glyph true d) ≡ d
glyph_has d h = eqb-true _ _ (agree_below_at (λ e. digit_value (digit_glyph true e) == e) (λ e. true) 16 d refl h)

hexadecimal_one : (c : ℕ) → c < 16 → Hexadecimal c (digit_glyph true c ∷ [])
hexadecimal_one c h = record {
  some = omega arith;
  few = omega arith;
  hexadecimal = both (is_ascii_hexdigit (digit_glyph true c)) true (glyph_is c h) refl;
  value = omega (arith, glyph_has c h);
}

hexadecimal_two : (c : ℕ) → c < 256 → Hexadecimal c (digit_glyph true (c / 16) ∷ digit_glyph true (c % 16) ∷ [])
hexadecimal_two c h =
    let high : c / 16 < 16 = omega arith in
    let low : c % 16 < 16 = omega arith in
    record {
      some = omega arith;
      few = omega arith;
      hexadecimal =
          both (is_ascii_hexdigit (digit_glyph true (c / 16))) _ (glyph_is (c / 16) high)
          (both (is_ascii_hexdigit (digit_glyph true (c % 16))) true (glyph_is (c % 16) low) refl);
      value = omega (arith, glyph_has (c / 16) high, glyph_has (c % 16) low);
    }

hexadecimal_digits : (c : ℕ) → c < 256 → Hexadecimal c (digits 16 true c)
hexadecimal_digits c h =
    ⊎_elim (λ (one : c < 16). subst (Hexadecimal c) (sym (hex_one_digit true c one)) (hexadecimal_one c one))
    (λ (two : 16 ≤ c). subst (Hexadecimal c) (sym (hex_two_digits true c two h)) (hexadecimal_two c h)) (cases_lt c 16)

control_low : (c : ℕ) → is_ascii_control c ≡ true → c < 256
control_low c e = grind (arith, nat_tests)

letter_is : (c x : ℕ) (rest : List ℕ) → (c == x) ≡ true → escape_of x ≡ Some x → IsCharacter 39 c (92 ∷ x ∷ rest) rest
letter_is c x rest e f = inr (x ∷ rest, refl, inl (x, refl, f ∙ ap Some (sym (eqb-true c x e))))

control_is : (c : ℕ) (rest : List ℕ) → IsScalar c → is_ascii_control c ≡ true
    → IsCharacter 39 c (92 ∷ 120 ∷ 123 ∷ ((digits 16 true c ++ 125 ∷ []) ++ rest)) rest
control_is c rest scalar e =
    let h = hexadecimal_digits c (control_low c e) in
    let braced : IsBraced c (120 ∷ 123 ∷ ((digits 16 true c ++ 125 ∷ []) ++ rest)) rest = record {
      digits = digits 16 true c;
      some = h.some;
      few = h.few;
      hexadecimal = h.hexadecimal;
      value = h.value;
      scalar = scalar;
      whole = ap (λ l. 120 ∷ 123 ∷ l) (append_assoc (digits 16 true c) (125 ∷ []) rest);
    } in
    inr (120 ∷ 123 ∷ ((digits 16 true c ++ 125 ∷ []) ++ rest), refl, inr (inr (inr braced)))

quoted_is : (c : ℕ) (rest : List ℕ) → IsScalar c → IsCharacter 39 c (quoted_character c ++ rest) rest
quoted_is c rest scalar =
    cond_both (c == 92) _ _ Is (λ e. letter_is c 92 rest e refl)
    (λ no_escape. cond_both (c == 39) _ _ Is (λ e. letter_is c 39 rest e refl)
    (λ no_quote. cond_both (is_ascii_control c) _ _ Is (control_is c rest scalar)
    (λ _. inl (record { scalar = scalar; no_quote = eqb-false c 39 no_quote; no_escape = eqb-false c 92 no_escape; whole = refl }))))
  where
    Is : List ℕ → Type 0
    Is bytes = IsCharacter 39 c (bytes ++ rest) rest

characters_are : (cs : List ℕ) (rest : List ℕ) → all_scalars cs ≡ true → AreCharacters 39 cs (flat_map quoted_character cs ++ rest) rest
characters_are [] rest e = refl
characters_are (c ∷ cs) rest e =
    let p = and_parts _ (all_scalars cs) e in
    let same : (quoted_character c ++ flat_map quoted_character cs) ++ rest ≡ quoted_character c ++ (flat_map quoted_character cs ++ rest)
    = append_assoc (quoted_character c) (flat_map quoted_character cs) rest in (
      flat_map quoted_character cs ++ rest,
      subst (λ l. IsCharacter 39 c l (flat_map quoted_character cs ++ rest)) (sym same) (quoted_is c (flat_map quoted_character cs ++ rest) p.0),
      characters_are cs rest p.1,
    )

-- ---- atoms

unquoted_shown : (Is : List Token → List Token → Type 0) (cs rest : List ℕ) → IsApart rest → length cs ≤ 255 → is_unquoted cs ≡ true
    → ((behind : List Token) → Is (plain cs ∷ behind) behind) → Shown Is cs rest
unquoted_shown Is cs rest apart short e is =
    one_shown (plain cs) Is cs rest ((and_parts (is_plain_atom cs) (not (is_reserved cs)) e).0, short) (refl, apart) is

quoted_shown : (Is : List Token → List Token → Type 0) (cs rest : List ℕ) → length cs ≤ 255 → all_scalars cs ≡ true
    → ((behind : List Token) → Is (quoted cs ∷ behind) behind) → Shown Is (quoted_atom cs) rest
quoted_shown Is cs rest short scalars is =
    let same : (flat_map quoted_character cs ++ 39 ∷ []) ++ rest ≡ flat_map quoted_character cs ++ 39 ∷ rest
    = append_assoc (flat_map quoted_character cs) (39 ∷ []) rest in
    one_shown (quoted cs) Is (quoted_atom cs) rest (scalars, short) (
      (flat_map quoted_character cs ++ 39 ∷ []) ++ rest,
      refl,
      subst (λ l. AreCharacters 39 cs l (39 ∷ rest)) (sym same) (characters_are cs (39 ∷ rest) scalars),
    ) is

pub atom_prints : (Is : List Token → List Token → Type 0) (cs : List ℕ) → length cs ≤ 255 → all_scalars cs ≡ true
    → ((behind : List Token) → Is (plain cs ∷ behind) behind) → ((behind : List Token) → Is (quoted cs ∷ behind) behind) → Prints Is (printed_atom cs)
atom_prints Is cs short scalars as_plain as_quoted rest apart =
    cond_both (is_unquoted cs) cs (quoted_atom cs) (λ bytes. Shown Is bytes rest) (λ e. unquoted_shown Is cs rest apart short e as_plain)
    (λ _. quoted_shown Is cs rest short scalars as_quoted)
