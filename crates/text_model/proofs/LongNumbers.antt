-- A number that goes on is out of range at some digit, and no number is refused so before.
use Rattle.std.proofs.Common.{◌≡◌, ℕ, zero, suc, ℤ, ◌+◌, ◌*◌, ◌<◌, ◌≤◌, ◌^◌, Bool, true, false, cond, List, [], ◌∷◌, Option, Some, None, Ok, Err}
use Rattle.std.proofs.Common.{refl, ap, ◌∙◌, arith}
use Rattle.std.proofs.lemmas.Bool.Decides.{nat_tests}
use Rattle.dets_term.specs.TermValue.{TermValue, integer}
use Rattle.text_model.specs.declared.fault.TextWhy.{TextWhy}
use Rattle.text_model.specs.declared.fault.TextWhy.TheVariants.{BadToken, Depth, IntegerRange, RepeatedKey}
use Rattle.text_model.specs.Token.{number, fits}
use Rattle.text_model.specs.Grammar.{strict}
use Rattle.text_model.specs.Nest.{Nest, Place, colon, Taken, refusal, leaf, number_at, take}
use Rattle.text_model.specs.Reader.{in_number, Led, in_lexeme, led, outcome, faulty}
use Rattle.text_model.proofs.Comes.{IsGoing, signed}
use Rattle.text_model.proofs.OneMore.{signed_digit}
use Rattle.text_model.proofs.ComesTokens.{by_test}
use Rattle.text_model.proofs.RunSteps.{led_fails, led_outcome, state_in}

fits_near : (minus : Bool) (m : ℕ) → fits (signed minus m) ≡ true → m ≤ 2 ^ 127
fits_near true zero e = omega arith
fits_near true (suc m) e = grind (arith, nat_tests)
fits_near false m e = grind (arith, nat_tests)

led_nine : (n : Nest) (start at m : ℕ) (minus b : Bool) → fits (signed minus (10 * m + 9)) ≡ b
    → led n at 57 (in_number start minus (signed minus m))
    ≡ cond {A = Led} b (in_lexeme n (in_number start minus (signed minus (10 * m + 9)))) (Err (start, IntegerRange))
led_nine n start at m minus b e =
    ap (λ z. cond {A = Led} (fits z) (in_lexeme n (in_number start minus z)) (Err (start, IntegerRange))) (signed_digit minus m 57)
    ∙ ap (λ c. cond {A = Led} c (in_lexeme n (in_number start minus (signed minus (10 * m + 9)))) (Err (start, IntegerRange))) e

-- digits with which the number is out of range
abbrev pub GetsWide : Nest → ℕ → ℕ → Bool → ℕ → Type 0
GetsWide n start at minus m = (digits : List ℕ) × (outcome (state_in n (in_number start minus (signed minus m))) at digits ≡ faulty start IntegerRange)

wide_now : (n : Nest) (start at m : ℕ) (minus : Bool) → IsGoing n → fits (signed minus (10 * m + 9)) ≡ false → GetsWide n start at minus m
wide_now n start at m minus goes e =
    (57 ∷ [], led_fails n (in_number start minus (signed minus m)) at 57 start [] IntegerRange goes (led_nine n start at m minus false e))

wide_later : (n : Nest) (start at m : ℕ) (minus : Bool) → IsGoing n → fits (signed minus (10 * m + 9)) ≡ true
    → GetsWide n start (at + 1) minus (10 * m + 9) → GetsWide n start at minus m
wide_later n start at m minus goes e further = (
  57 ∷ further.0,
  led_outcome n (in_number start minus (signed minus m)) (in_number start minus (signed minus (10 * m + 9))) at 57 further.0 goes
      (led_nine n start at m minus true e) ∙ further.1,
)

by_fit : (n : Nest) (start at m : ℕ) (minus b : Bool) → IsGoing n → fits (signed minus (10 * m + 9)) ≡ b
    → (b ≡ true → GetsWide n start (at + 1) minus (10 * m + 9)) → GetsWide n start at minus m
by_fit n start at m minus true goes e further = wide_later n start at m minus goes e (further refl)
by_fit n start at m minus false goes e further = wide_now n start at m minus goes e

gets_wide : (k : ℕ) (n : Nest) (start at m : ℕ) (minus : Bool) → IsGoing n → 2 ^ 127 < m + k → GetsWide n start at minus m
gets_wide zero n start at m minus goes far =
    by_fit n start at m minus _ goes refl (λ e. absurd (let near = fits_near minus (10 * m + 9) e in omega arith))
gets_wide (suc k) n start at m minus goes far =
    by_fit n start at m minus _ goes refl (λ e. gets_wide k n start (at + 1) (10 * m + 9) minus goes (omega arith))

pub number_gets_wide : (n : Nest) (start at m : ℕ) (minus : Bool) → IsGoing n → GetsWide n start at minus m
number_gets_wide n start at m minus goes = gets_wide (suc (2 ^ 127)) n start at m minus goes (omega arith)

-- ---- the other faults of a number

-- no token is refused as an integer out of range
abbrev pub IsInRange : Taken → Type 0
IsInRange t = (fault : ℕ × TextWhy) → t ≡ Err fault → fault.1 ≡ IntegerRange → ⊥

range_chosen : (b : Bool) (x y : Taken) → IsInRange x → IsInRange y → IsInRange (cond b x y)
range_chosen b x y f g = by_test IsInRange b x y (λ e. f) (λ e. g)

ok_range : (m : Nest) → IsInRange (Ok m)
ok_range m fault e f = cc

err_why : (at : ℕ) (why : TextWhy) → (why ≡ IntegerRange → ⊥) → IsInRange (Err (at, why))
err_why at why h fault e f = h (let same : (at, why) ≡ fault = cc in ap (λ (p : ℕ × TextWhy). p.1) same ∙ f)

leaf_range : (n : Nest) (at : ℕ) (t : TermValue) (why : Option TextWhy) → (why ≡ Some IntegerRange → ⊥) → IsInRange (leaf strict n at t why)
leaf_range n at t None h = range_chosen _ _ _ (err_why at RepeatedKey (λ e. cc)) (ok_range _)
leaf_range n at t (Some why) h = err_why at why (λ e. h (ap Some e))

refusal_range : (b c : Bool) → cond b (cond c None (Some Depth)) (Some BadToken) ≡ Some IntegerRange → ⊥
refusal_range true true e = cc
refusal_range true false e = cc
refusal_range false c e = cc

number_at_range : (n : Nest) (at : ℕ) (z : ℤ) (place : Place) → IsInRange (number_at strict n at z place)
number_at_range n at z (colon start v) = range_chosen _ _ _ (err_why start BadToken (λ e. cc)) (ok_range _)
number_at_range n at z other = leaf_range n at (integer z) (refusal strict n) (refusal_range _ _)

pub number_range : (n : Nest) (at : ℕ) (z : ℤ) → IsInRange (take strict n at (number z))
number_range n at z = range_chosen _ _ _ (range_chosen _ _ _ (err_why at BadToken (λ e. cc)) (ok_range _)) (number_at_range n at z n.place)
