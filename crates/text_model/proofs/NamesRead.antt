-- How the machine reads names, and one that is too long.
use Rattle.std.proofs.Common.{◌≡◌, ℕ, ◌+◌, ◌<◌, ◌≤◌, true, nat_lt, List, [], ◌∷◌, ◌++◌, length, length-append, None, lt-ltb, ltb-true, refl, ap, ◌∙◌}
use Rattle.std.proofs.Common.{sym, append_assoc, append-nil, arith, Err}
use Rattle.std.proofs.lemmas.Bool.{and_parts}
use Rattle.std.specs.Char.{is_ascii_lowercase}
use Rattle.std.specs.List.{list_all}
use Rattle.text_model.specs.declared.fault.TextWhy.TheVariants.{BadToken}
use Rattle.text_model.specs.Token.{a_plain, is_name_character, is_plain_atom}
use Rattle.text_model.specs.Grammar.{strict}
use Rattle.text_model.specs.Nest.{Nest, refusal_of}
use Rattle.text_model.specs.Reader.{between, in_name, in_lexeme, if_not_refused}
use Rattle.text_model.proofs.Comes.{IsGoing}
use Rattle.text_model.proofs.Runs.{failing, run}
use Rattle.text_model.proofs.WordsRead.{either_way, letter_begins}
use Rattle.text_model.proofs.RunSteps.{at_token, run_led, run_to, state_in}

letters_run : (n : Nest) (start : ℕ) (front cs more : List ℕ) (at next : ℕ) → IsGoing n → list_all is_name_character cs ≡ true
    → length front + length cs ≤ 255 → at + length cs ≡ next
    → run (state_in n (in_name start front)) at (cs ++ more) ≡ run (state_in n (in_name start (front ++ cs))) next more
letters_run n start front [] more at next goes e few there =
    ap (λ l. run (state_in n (in_name start l)) at more) (sym (append-nil front))
    ∙ ap (λ k. run (state_in n (in_name start (front ++ []))) k more) (let s : at ≡ next = omega arith in s)
letters_run n start front (c ∷ cs) more at next goes e few there =
    let parts = and_parts (is_name_character c) (list_all is_name_character cs) e in
    let room = lt-ltb (length front) 255 (omega arith) in
    run_to n (in_name start front) at c (at + 1) (cs ++ more) (state_in n (in_name start (front ++ c ∷ []))) goes (rw (parts.0, room) refl) refl
    ∙ letters_run n start (front ++ c ∷ []) cs more (at + 1) next goes parts.1 (omega (arith, length-append front (c ∷ []))) (omega arith)
    ∙ ap (λ l. run (state_in n (in_name start l)) next more) (append_assoc front (c ∷ []) cs)

long_run : (n : Nest) (start : ℕ) (front cs more : List ℕ) (at : ℕ) → IsGoing n → list_all is_name_character cs ≡ true
    → length front ≤ 255 → 255 < length front + length cs
    → (k : ℕ) × (run (state_in n (in_name start front)) at (cs ++ more) ≡ failing k start BadToken)
long_run n start front [] more at goes e few many = absurd (omega arith)
long_run n start front (c ∷ cs) more at goes e few many =
    let parts = and_parts (is_name_character c) (list_all is_name_character cs) e in
    either_way (nat_lt (length front) 255)
    (λ l. let room = ltb-true (length front) 255 l in
    let further = long_run n start (front ++ c ∷ []) cs more (at + 1) goes parts.1
    (omega (arith, length-append front (c ∷ []))) (omega (arith, length-append front (c ∷ []))) in (
      further.0,
      run_to n (in_name start front) at c (at + 1) (cs ++ more) (state_in n (in_name start (front ++ c ∷ []))) goes
          (rw (parts.0, l) refl) refl ∙ further.1,
    ))
    (λ l. (at, run_led n (in_name start front) at c (cs ++ more) (Err (start, BadToken)) goes (rw (parts.0, l) refl)))

name_begins : (n : Nest) (at c : ℕ) (more : List ℕ) → IsGoing n → refusal_of strict n a_plain ≡ None → is_ascii_lowercase c ≡ true
    → run (at_token n) at (c ∷ more) ≡ run (state_in n (in_name at (c ∷ []))) (at + 1) more
name_begins n at c more goes place e =
    run_to n between at c (at + 1) more (state_in n (in_name at (c ∷ []))) goes
    (letter_begins n at c e ∙ ap (λ o. if_not_refused o at (in_lexeme n (in_name at (c ∷ [])))) place) refl

-- a name up to its last character
pub name_run : (n : Nest) (at next : ℕ) (cs more : List ℕ) → IsGoing n → refusal_of strict n a_plain ≡ None → is_plain_atom cs ≡ true
    → length cs ≤ 255 → at + length cs ≡ next → run (at_token n) at (cs ++ more) ≡ run (state_in n (in_name at cs)) next more
name_run n at next [] more goes place e few there = cc
name_run n at next (c ∷ cs) more goes place e few there =
    let parts = and_parts (is_ascii_lowercase c) (list_all is_name_character cs) e in
    name_begins n at c (cs ++ more) goes place parts.0
    ∙ letters_run n at (c ∷ []) cs more (at + 1) next goes parts.1 (omega arith) (omega arith)

-- one that is too long
pub long_name : (n : Nest) (at : ℕ) (cs more : List ℕ) → IsGoing n → refusal_of strict n a_plain ≡ None → is_plain_atom cs ≡ true
    → 255 < length cs → (k : ℕ) × (run (at_token n) at (cs ++ more) ≡ failing k at BadToken)
long_name n at [] more goes place e many = cc
long_name n at (c ∷ cs) more goes place e many =
    let parts = and_parts (is_ascii_lowercase c) (list_all is_name_character cs) e in
    let further = long_run n at (c ∷ []) cs more (at + 1) goes parts.1 (omega arith) (omega arith) in
    (further.0, name_begins n at c (cs ++ more) goes place parts.0 ∙ further.1)
