-- One more item: of a test on each, of digits, and of characters.
use Rattle.std.proofs.Common.{◌≡◌, ℕ, ℤ, ◌+◌, ◌*◌, ◌-◌, Bool, true, false, ◌&&◌, List, [], ◌∷◌, ◌++◌, length-append, encode_utf8, encode_utf8_all}
use Rattle.std.proofs.Common.{refl, ap, ◌∙◌, sym, subst, append_assoc, append-nil, inl, inr, arith, pos}
use Rattle.std.proofs.lemmas.Int.{ints}
use Rattle.std.proofs.lemmas.Bool.{and_parts}
use Rattle.std.specs.Char.{IsScalar, is_ascii_digit}
use Rattle.std.specs.Str.{all_scalars}
use Rattle.text_model.specs.Characters.{each, digit_value, digits_behind, number_in, IsCharacter, AreCharacters}
use Rattle.text_model.specs.Reader.{digit}
use Rattle.text_model.proofs.Comes.{IsCut, signed, AreDigits}
use Rattle.text_model.proofs.Sequences.{IsGrown}
use Rattle.text_model.specs.Token.{fits}
use Rattle.std.proofs.lemmas.Bool.Decides.{nat_tests}

pub both : (a b : Bool) → a ≡ true → b ≡ true → (a && b) ≡ true
both a b e f = ap (λ c. c && b) e ∙ f

pub each_push : (test : ℕ → Bool) (xs : List ℕ) (x : ℕ) → each test xs ≡ true → test x ≡ true → each test (xs ++ x ∷ []) ≡ true
each_push test [] x e f = both (test x) true f refl
each_push test (y ∷ xs) x e f =
    let p = and_parts (test y) (each test xs) e in both (test y) (each test (xs ++ x ∷ [])) p.0 (each_push test xs x p.1 f)

pub scalars_push : (cs : List ℕ) (c : ℕ) → all_scalars cs ≡ true → IsScalar c → all_scalars (cs ++ c ∷ []) ≡ true
scalars_push [] c e f = both _ true f refl
scalars_push (y ∷ cs) c e f =
    let p = and_parts _ (all_scalars cs) e in both _ (all_scalars (cs ++ c ∷ [])) p.0 (scalars_push cs c p.1 f)

pub encode_push : (cs : List ℕ) (c : ℕ) → encode_utf8_all (cs ++ c ∷ []) ≡ encode_utf8_all cs ++ encode_utf8 c
encode_push [] c = append-nil (encode_utf8 c)
encode_push (y ∷ cs) c = ap (λ l. encode_utf8 y ++ l) (encode_push cs c) ∙ sym (append_assoc (encode_utf8 y) (encode_utf8_all cs) (encode_utf8 c))

-- ---- digits

pub digits_push : (base n : ℕ) (ds : List ℕ) (d : ℕ) → digits_behind base n (ds ++ d ∷ []) ≡ base * digits_behind base n ds + digit_value d
digits_push base n [] d = refl
digits_push base n (y ∷ ds) d = digits_push base (base * n + digit_value y) ds d

pub are_digits_push : (base : ℕ) (test : ℕ → Bool) (v count : ℕ) (ds : List ℕ) (d : ℕ) → AreDigits base test v count ds → test d ≡ true
    → AreDigits base test (base * v + digit_value d) (count + 1) (ds ++ d ∷ [])
are_digits_push base test v count ds d a e = record {
  pass = each_push test ds d a.pass e;
  counted = omega (arith, length-append ds (d ∷ []), a.counted);
  value = ap (λ k. base * k + digit_value d) a.value ∙ sym (digits_push base 0 ds d);
}

pub signed_digit : (minus : Bool) (n d : ℕ) → digit minus (signed minus n) d ≡ signed minus (10 * n + (d - 48))
signed_digit true n d = omega (arith, ints)
signed_digit false n d = omega (arith, ints)

pub digit_push : (minus : Bool) (z : ℤ) (ds : List ℕ) (d : ℕ) → is_ascii_digit d ≡ true → z ≡ signed minus (number_in 10 ds)
    → digit minus z d ≡ signed minus (number_in 10 (ds ++ d ∷ []))
digit_push minus z ds d e f =
    let decimal : digit_value d ≡ d - 48 = rw e in
    ap (λ y. digit minus y d) f ∙ signed_digit minus (number_in 10 ds) d
    ∙ ap (λ k. signed minus (10 * number_in 10 ds + k)) (sym decimal) ∙ ap (signed minus) (sym (digits_push 10 0 ds d))

-- a digit alone
pub first_digit : (minus : Bool) (d : ℕ) → is_ascii_digit d ≡ true → digit minus (pos 0) d ≡ signed minus (number_in 10 (d ∷ []))
first_digit true d e = digit_push true (pos 0) [] d e refl
first_digit false d e = digit_push false (pos 0) [] d e refl

pub first_fits : (minus : Bool) (d : ℕ) → is_ascii_digit d ≡ true → fits (signed minus (number_in 10 (d ∷ []))) ≡ true
first_fits true d e = sym (ap fits (first_digit true d e)) ∙ grind (arith, nat_tests)
first_fits false d e = sym (ap fits (first_digit false d e)) ∙ grind (arith, nat_tests)

-- ---- characters

pub characters_push : (quote : ℕ) (cs : List ℕ) (c : ℕ) (bytes middle rest : List ℕ) → AreCharacters quote cs bytes middle → IsCharacter quote c middle rest
    → AreCharacters quote (cs ++ c ∷ []) bytes rest
characters_push quote [] c bytes middle rest e is = (rest, subst (λ b. IsCharacter quote c b rest) (sym e) is, refl)
characters_push quote (y ∷ cs) c bytes middle rest e is = (e.0, e.1, characters_push quote cs c e.0 middle rest e.2 is)

pub grown_cut : (bytes : List ℕ) (x : ℕ) → IsCut bytes → IsGrown (bytes ++ x ∷ [])
grown_cut bytes x (inl e) = inl (x, ap (λ l. l ++ x ∷ []) e)
grown_cut bytes x (inr e) = inr (bytes, x, refl, e)
