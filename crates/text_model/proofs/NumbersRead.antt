-- How the machine reads numbers, and one that is out of range.
use Rattle.std.proofs.Common.{◌≡◌, ℕ, pos, ◌+◌, ◌<◌, ◌≤◌, Bool, true, false, cond, List, [], ◌∷◌, ◌++◌, length, None, Err, refl, ap, ◌∙◌, sym}
use Rattle.std.proofs.Common.{append_assoc, append-nil, arith}
use Rattle.std.proofs.lemmas.Bool.{and_parts}
use Rattle.std.specs.Char.{is_ascii_digit}
use Rattle.text_model.specs.declared.fault.TextWhy.TheVariants.{IntegerRange}
use Rattle.text_model.specs.Token.{a_number, fits}
use Rattle.text_model.specs.Characters.{each, number_in}
use Rattle.text_model.specs.Grammar.{strict}
use Rattle.text_model.specs.Nest.{Nest, refusal_of}
use Rattle.text_model.specs.Reader.{between, in_minus, in_number, in_lexeme, bad, if_not_refused, if_not_stray, digit, led}
use Rattle.text_model.proofs.Comes.{IsGoing, signed, sign}
use Rattle.text_model.proofs.LongerTokens.{digits_grow, digits_append, fits_nearer}
use Rattle.text_model.proofs.OneMore.{digit_push, first_digit, first_fits}
use Rattle.text_model.proofs.Runs.{failing, run}
use Rattle.text_model.proofs.WordsRead.{either_way, digit_begins}
use Rattle.text_model.proofs.RunSteps.{at_token, run_led, run_to, state_in}

number_begins : (n : Nest) (at : ℕ) (minus : Bool) (d : ℕ) (more : List ℕ) → IsGoing n → is_ascii_digit d ≡ true → refusal_of strict n a_number ≡ None
    → run (at_token n) at (sign minus ++ d ∷ more)
    ≡ run (state_in n (in_number at minus (signed minus (number_in 10 (d ∷ []))))) (at + length (sign minus) + 1) more
number_begins n at false d more goes e place =
    run_to n between at d (at + 0 + 1) more (state_in n (in_number at false (signed false (number_in 10 (d ∷ []))))) goes
    (digit_begins n at d e ∙ ap (λ o. if_not_refused o at (in_lexeme n (in_number at false (digit false (pos 0) d)))) place
    ∙ ap (λ z. in_lexeme n (in_number at false z)) (first_digit false d e)) (omega arith)
number_begins n at true d more goes e place =
    run_to n between at 45 (at + 1) (d ∷ more) (state_in n (in_minus at)) goes
    (ap (λ o. if_not_stray o at (in_lexeme n (in_minus at))) place) refl
    ∙ run_to n (in_minus at) (at + 1) d (at + 1 + 1) more (state_in n (in_number at true (signed true (number_in 10 (d ∷ []))))) goes
    (ap (λ b. cond b (if_not_refused (refusal_of strict n a_number) at (in_lexeme n (in_number at true (digit true (pos 0) d)))) (bad at)) e
    ∙ ap (λ o. if_not_refused o at (in_lexeme n (in_number at true (digit true (pos 0) d)))) place
    ∙ ap (λ z. in_lexeme n (in_number at true z)) (first_digit true d e)) refl

digit_more : (n : Nest) (start at : ℕ) (minus : Bool) (ds : List ℕ) (d : ℕ) → is_ascii_digit d ≡ true → fits (signed minus (number_in 10 (ds ++ d ∷ []))) ≡ true
    → led n at d (in_number start minus (signed minus (number_in 10 ds))) ≡ in_lexeme n (in_number start minus (signed minus (number_in 10 (ds ++ d ∷ []))))
digit_more n start at minus ds d e f =
    let z = signed minus (number_in 10 ds) in
    let same = digit_push minus z ds d e refl in
    let holds : fits (digit minus z d) ≡ true = ap fits same ∙ f in
    rw (e, holds) (ap (λ y. in_lexeme n (in_number start minus y)) same)

digit_wide : (n : Nest) (start at : ℕ) (minus : Bool) (ds : List ℕ) (d : ℕ) → is_ascii_digit d ≡ true
    → fits (signed minus (number_in 10 (ds ++ d ∷ []))) ≡ false
    → led n at d (in_number start minus (signed minus (number_in 10 ds))) ≡ Err (start, IntegerRange)
digit_wide n start at minus ds d e f =
    let z = signed minus (number_in 10 ds) in
    let wide : fits (digit minus z d) ≡ false = ap fits (digit_push minus z ds d e refl) ∙ f in
    rw (e, wide) refl

-- digits so far, and more
digits_run : (n : Nest) (start : ℕ) (minus : Bool) (front ds more : List ℕ) (at next : ℕ) → IsGoing n → each is_ascii_digit ds ≡ true
    → fits (signed minus (number_in 10 (front ++ ds))) ≡ true → at + length ds ≡ next
    → run (state_in n (in_number start minus (signed minus (number_in 10 front)))) at (ds ++ more)
    ≡ run (state_in n (in_number start minus (signed minus (number_in 10 (front ++ ds))))) next more
digits_run n start minus front [] more at next goes e f there =
    ap (λ l. run (state_in n (in_number start minus (signed minus (number_in 10 l)))) at more) (sym (append-nil front))
    ∙ ap (λ k. run (state_in n (in_number start minus (signed minus (number_in 10 (front ++ []))))) k more) (let s : at ≡ next = omega arith in s)
digits_run n start minus front (d ∷ ds) more at next goes e f there =
    let parts = and_parts (is_ascii_digit d) (each is_ascii_digit ds) e in
    let all : front ++ d ∷ ds ≡ (front ++ d ∷ []) ++ ds = sym (append_assoc front (d ∷ []) ds) in
    let whole : fits (signed minus (number_in 10 ((front ++ d ∷ []) ++ ds))) ≡ true = ap (λ l. fits (signed minus (number_in 10 l))) (sym all) ∙ f in
    let near : number_in 10 (front ++ d ∷ []) ≤ number_in 10 ((front ++ d ∷ []) ++ ds) =
    omega (arith, digits_append 0 (front ++ d ∷ []) ds, digits_grow (number_in 10 (front ++ d ∷ [])) ds) in
    run_to n (in_number start minus (signed minus (number_in 10 front))) at d (at + 1) (ds ++ more) _ goes
    (digit_more n start at minus front d parts.0 (fits_nearer minus _ _ near whole)) refl
    ∙ digits_run n start minus (front ++ d ∷ []) ds more (at + 1) next goes parts.1 whole (omega arith)
    ∙ ap (λ l. run (state_in n (in_number start minus (signed minus (number_in 10 l)))) next more) (sym all)

wide_run : (n : Nest) (start : ℕ) (minus : Bool) (front ds more : List ℕ) (at : ℕ) → IsGoing n → each is_ascii_digit ds ≡ true
    → fits (signed minus (number_in 10 front)) ≡ true → fits (signed minus (number_in 10 (front ++ ds))) ≡ false
    → (k : ℕ) × (run (state_in n (in_number start minus (signed minus (number_in 10 front)))) at (ds ++ more) ≡ failing k start IntegerRange)
wide_run n start minus front [] more at goes e f w =
    let clash : true ≡ false = sym f ∙ ap (λ l. fits (signed minus (number_in 10 l))) (sym (append-nil front)) ∙ w in cc
wide_run n start minus front (d ∷ ds) more at goes e f w =
    let parts = and_parts (is_ascii_digit d) (each is_ascii_digit ds) e in
    either_way (fits (signed minus (number_in 10 (front ++ d ∷ []))))
    (λ g. let further = wide_run n start minus (front ++ d ∷ []) ds more (at + 1) goes parts.1 g
    (ap (λ l. fits (signed minus (number_in 10 l))) (append_assoc front (d ∷ []) ds) ∙ w) in (
      further.0,
      run_to n (in_number start minus (signed minus (number_in 10 front))) at d (at + 1) (ds ++ more) _ goes
          (digit_more n start at minus front d parts.0 g) refl ∙ further.1,
    ))
    (λ g. (
      at,
      run_led n (in_number start minus (signed minus (number_in 10 front))) at d (ds ++ more) (Err (start, IntegerRange)) goes
          (digit_wide n start at minus front d parts.0 g),
    ))

-- a number up to its last digit
pub number_run : (n : Nest) (at next : ℕ) (minus : Bool) (ds more : List ℕ) → IsGoing n → refusal_of strict n a_number ≡ None → 0 < length ds
    → each is_ascii_digit ds ≡ true → fits (signed minus (number_in 10 ds)) ≡ true → at + length (sign minus) + length ds ≡ next
    → run (at_token n) at (sign minus ++ (ds ++ more)) ≡ run (state_in n (in_number at minus (signed minus (number_in 10 ds)))) next more
number_run n at next minus [] more goes place some e f there = absurd (omega arith)
number_run n at next minus (d ∷ ds) more goes place some e f there =
    let parts = and_parts (is_ascii_digit d) (each is_ascii_digit ds) e in
    number_begins n at minus d (ds ++ more) goes parts.0 place
    ∙ digits_run n at minus (d ∷ []) ds more (at + length (sign minus) + 1) next goes parts.1 f (omega arith)

-- one that is out of range
pub wide_number : (n : Nest) (at : ℕ) (minus : Bool) (ds more : List ℕ) → IsGoing n → refusal_of strict n a_number ≡ None → 0 < length ds
    → each is_ascii_digit ds ≡ true → fits (signed minus (number_in 10 ds)) ≡ false
    → (k : ℕ) × (run (at_token n) at (sign minus ++ (ds ++ more)) ≡ failing k at IntegerRange)
wide_number n at minus [] more goes place some e w = absurd (omega arith)
wide_number n at minus (d ∷ ds) more goes place some e w =
    let parts = and_parts (is_ascii_digit d) (each is_ascii_digit ds) e in
    let further = wide_run n at minus (d ∷ []) ds more (at + length (sign minus) + 1) goes parts.1 (first_fits minus d parts.0) w in
    (further.0, number_begins n at minus d (ds ++ more) goes parts.0 place ∙ further.1)
