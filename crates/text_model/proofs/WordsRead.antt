-- How the machine reads the first byte of a number and a name, and what ends them.
use Rattle.std.proofs.Common.{◌≡◌, ℕ, pos, ◌+◌, Bool, true, false, ◌==◌, List, [], ◌∷◌, None, Ok, Err, refl, ap, ◌∙◌, sym, ⊎_elim, arith}
use Rattle.std.proofs.lemmas.Bool.{cases_Bool}
use Rattle.std.proofs.lemmas.Bool.Decides.{nat_tests}
use Rattle.std.specs.Char.{is_ascii_digit, is_ascii_lowercase}
use Rattle.text_model.specs.Token.{Token, a_number, a_plain}
use Rattle.text_model.specs.Spelling.{is_white}
use Rattle.text_model.specs.Grammar.{strict}
use Rattle.text_model.specs.Nest.{Nest, Taken, refusal_of, take}
use Rattle.text_model.specs.Reader.{Lexeme, between, in_number, in_name, in_lexeme, led_to, if_not_refused, digit, begin, begin_other, begin_single}
use Rattle.text_model.specs.Reader.{begin_double, begin_behind, single, double, led}
use Rattle.text_model.proofs.Comes.{IsGoing}
use Rattle.text_model.proofs.Going.{AreGoing}
use Rattle.text_model.proofs.Runs.{run, run_by}
use Rattle.text_model.proofs.RunSteps.{run_led, state_in}

-- ---- the first byte

pub other_begins : (n : Nest) (at x : ℕ) → is_white x ≡ false → (x == 37) ≡ false → single x ≡ None → double x ≡ None → begin n at x ≡ begin_other n at x
other_begins n at x w c s d = rw (w, c) (ap (begin_single n at x) s ∙ ap (begin_double n at x) d)

pub digit_begins : (n : Nest) (at x : ℕ) → is_ascii_digit x ≡ true
    → begin n at x ≡ if_not_refused (refusal_of strict n a_number) at (in_lexeme n (in_number at false (digit false (pos 0) x)))
digit_begins n at x e =
    let w : is_white x ≡ false = grind (arith, nat_tests) in
    let c : (x == 37) ≡ false = grind (arith, nat_tests) in
    let s : single x ≡ None = grind (arith, nat_tests) in
    let d : double x ≡ None = grind (arith, nat_tests) in
    let m : (x == 45) ≡ false = grind (arith, nat_tests) in
    other_begins n at x w c s d ∙ rw (m, e) refl

pub letter_begins : (n : Nest) (at x : ℕ) → is_ascii_lowercase x ≡ true
    → begin n at x ≡ if_not_refused (refusal_of strict n a_plain) at (in_lexeme n (in_name at (x ∷ [])))
letter_begins n at x e =
    let w : is_white x ≡ false = grind (arith, nat_tests) in
    let c : (x == 37) ≡ false = grind (arith, nat_tests) in
    let s : single x ≡ None = grind (arith, nat_tests) in
    let d : double x ≡ None = grind (arith, nat_tests) in
    let m : (x == 45) ≡ false = grind (arith, nat_tests) in
    let k : is_ascii_digit x ≡ false = grind (arith, nat_tests) in
    other_begins n at x w c s d ∙ rw (m, k, e) refl

-- ---- tests

pub either_way : {A : Type 0} (b : Bool) → (b ≡ true → A) → (b ≡ false → A) → A
either_way b f g = ⊎_elim f g (cases_Bool b)

-- ---- what ends them

ended_by : (n : Nest) (at x : ℕ) (more : List ℕ) (t : Taken) → AreGoing t
    → run_by at (begin_behind t at x) (λ s. run s (at + 1) more) ≡ run_by at (led_to t) (λ s. run s at (x ∷ more))
ended_by n at x more (Ok m) goes = sym (run_led m between at x more (begin m at x) (goes m refl) refl)
ended_by n at x more (Err fault) goes = refl

-- a byte behind a word that it ends
pub ended_run : (n : Nest) (l : Lexeme) (start at x : ℕ) (more : List ℕ) (token : Token) → IsGoing n → AreGoing (take strict n start token)
    → led n at x l ≡ begin_behind (take strict n start token) at x
    → run (state_in n l) at (x ∷ more) ≡ run_by at (led_to (take strict n start token)) (λ s. run s at (x ∷ more))
ended_run n l start at x more token goes all e =
    run_led n l at x more (begin_behind (take strict n start token) at x) goes e ∙ ended_by n at x more (take strict n start token) all
