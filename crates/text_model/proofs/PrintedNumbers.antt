-- A number is spelled by its decimal digits.
use Rattle.std.proofs.Common.{◌≡◌, ℕ, ℤ, pos, negsuc, neg_ℤ, suc, ◌+◌, ◌/◌, ◌%◌, ◌^◌, ◌<◌, ◌≤◌, true, false, List, [], ◌∷◌, ◌++◌, length, refl, ap}
use Rattle.std.proofs.Common.{◌∙◌, sym, arith, length-append, FitsSigned}
use Rattle.std.specs.Int.{w128}
use Rattle.std.proofs.lemmas.Bool.Decides.{nat_tests}
use Rattle.std.proofs.lemmas.Fmt.{decimal_by_steps_wide}
use Rattle.std.specs.Char.{is_ascii_digit}
use Rattle.std.specs.Fmt.{decimal, signed_decimal}
use Rattle.text_model.specs.Token.{fits}
use Rattle.text_model.specs.Characters.{each, EndsBefore, digit_value, number_in}
use Rattle.text_model.specs.Spelling.{IsNumber}
use Rattle.text_model.proofs.OneMore.{both, each_push, digits_push}

-- some decimal digits of a number
record Spelling (n : ℕ) (ds : List ℕ) : Type 0 where
  some : 0 < length ds
  decimal : each is_ascii_digit ds ≡ true
  value : number_in 10 ds ≡ n

digit_is : (n : ℕ) → n < 10 → is_ascii_digit (48 + n) ≡ true
digit_is n h = grind (arith, nat_tests)

digit_has : (n : ℕ) → n < 10 → digit_value (48 + n) ≡ n
digit_has n h = grind (arith, nat_tests)

one_digit : (n : ℕ) → n < 10 → Spelling n ((48 + n) ∷ [])
one_digit n h = record { some = omega arith; decimal = both (is_ascii_digit (48 + n)) true (digit_is n h) refl; value = omega (arith, digit_has n h) }

more_digits : (n : ℕ) (ds : List ℕ) → 10 ≤ n → Spelling (n / 10) ds → Spelling n (ds ++ (48 + n % 10) ∷ [])
more_digits n ds h s =
    let small : n % 10 < 10 = omega arith in
    record {
      some = omega (arith, length-append ds ((48 + n % 10) ∷ []));
      decimal = each_push is_ascii_digit ds (48 + n % 10) s.decimal (digit_is (n % 10) small);
      value = digits_push 10 0 ds (48 + n % 10) ∙ omega (arith, s.value, digit_has (n % 10) small);
    }

spelling : (n : ℕ) → n < 10 ^ 64 → Spelling n (decimal n)
spelling n h = decimal_by_steps_wide Spelling one_digit more_digits n h

-- ---- within 128 bits

pub within_fits : (z : ℤ) → FitsSigned w128 z → fits z ≡ true
within_fits (pos n) f = grind (arith, nat_tests, f.sfits)
within_fits (negsuc n) f = grind (arith, nat_tests, f.sfits)

digits_of_pos : (n : ℕ) → fits (pos n) ≡ true → n < 10 ^ 64
digits_of_pos n e = grind (arith, nat_tests)

digits_of_negsuc : (n : ℕ) → fits (negsuc n) ≡ true → suc n < 10 ^ 64
digits_of_negsuc n e = grind (arith, nat_tests)

pub integer_spelled : (z : ℤ) (rest : List ℕ) → fits z ≡ true → EndsBefore is_ascii_digit rest → IsNumber z (signed_decimal z ++ rest) rest
integer_spelled (pos n) rest f ends =
    let s = spelling n (digits_of_pos n f) in
    record {
      minus = false;
      digits = decimal n;
      some = s.some;
      decimal = s.decimal;
      value = ap pos (sym s.value);
      whole = refl;
      longest = ends;
    }
integer_spelled (negsuc n) rest f ends =
    let s = spelling (suc n) (digits_of_negsuc n f) in
    record {
      minus = true;
      digits = decimal (suc n);
      some = s.some;
      decimal = s.decimal;
      value = ap (λ m. neg_ℤ (pos m)) (sym s.value);
      whole = refl;
      longest = ends;
    }
