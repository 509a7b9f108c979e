-- How the machine reads a token that cannot stand where it begins.
use Rattle.std.proofs.Common.{◌≡◌, ℕ, pos, ◌+◌, ◌≤◌, false, ◌==◌, List, [], ◌∷◌, ◌++◌, length, Option, Some, None, Err, eqb-true, append-nil, refl}
use Rattle.std.proofs.Common.{ap, ◌∙◌, sym, inl, inr, ⊎_elim, ◌⊎◌}
use Rattle.std.specs.Char.{is_ascii_digit, is_ascii_lowercase}
use Rattle.text_model.specs.declared.fault.TextWhy.{TextWhy}
use Rattle.text_model.specs.declared.fault.TextWhy.TheVariants.{BadToken}
use Rattle.text_model.specs.declared.mark.Mark.{Mark}
use Rattle.text_model.specs.Token.{Sort, mark, a_mark, a_number, a_plain, a_quoted, a_string, mark_bytes}
use Rattle.text_model.specs.Spelling.{is_white}
use Rattle.text_model.specs.Grammar.{strict, formal}
use Rattle.text_model.specs.Nest.{Nest, refusal_of, take}
use Rattle.text_model.specs.Faults.{Shows}
use Rattle.text_model.specs.Reader.{Lexeme, of_atom, of_string, nothing, between, first_of, in_minus, in_number, in_name, in_quotes, in_lexeme, bad}
use Rattle.text_model.specs.Reader.{led_to, if_not_refused, if_not_stray, why_of, digit, begin_mark, begin_other, begin_double, begin_single, begin}
use Rattle.text_model.specs.Reader.{single, double, second_byte, led}
use Rattle.text_model.proofs.Comes.{IsGoing, IsNotStray}
use Rattle.text_model.proofs.FirstBytes.{single_bytes, double_bytes}
use Rattle.text_model.proofs.Runs.{failing, run}
use Rattle.text_model.proofs.WordsRead.{either_way, other_begins, digit_begins, letter_begins}
use Rattle.text_model.proofs.WholeTokensRead.{not_stray}
use Rattle.text_model.proofs.RunSteps.{at_token, run_led, run_to, state_in}
use Rattle.text_model.proofs.Verdicts.{IsRefusedWith, stray_refused}
use Rattle.text_model.proofs.Passes.{Passes}

-- a run with a fault that is told at the offset where it begins
abbrev pub FailsWith : TextWhy → Nest → ℕ → List ℕ → Type 0
FailsWith why n at bytes = (k : ℕ) × (run (at_token n) at bytes ≡ failing k at why)

pub at_once : (why : TextWhy) (n : Nest) (at x : ℕ) (rest : List ℕ) → IsGoing n → begin n at x ≡ Err (at, why) → FailsWith why n at (x ∷ rest)
at_once why n at x rest goes e = (at, run_led n between at x rest (Err (at, why)) goes e)

-- ---- tokens that cannot stand

-- the first byte is refused, or the second one is none of the token
stray_or : (o : Option TextWhy) → (o ≡ Some BadToken) ⊎ IsNotStray o
stray_or (Some BadToken) = inl refl
stray_or other = inr (λ f. cc)

second_fails : (n : Nest) (at x y : ℕ) (rest : List ℕ) (o : Option TextWhy) (lexeme : Lexeme) → IsGoing n
    → begin n at x ≡ if_not_stray o at (in_lexeme n lexeme) → led n (at + 1) y lexeme ≡ bad at → FailsWith BadToken n at (x ∷ y ∷ rest)
second_fails n at x y rest o lexeme goes e f = ⊎_elim
    (λ (s : o ≡ Some BadToken). at_once BadToken n at x (y ∷ rest) goes (e ∙ ap (λ p. if_not_stray p at (in_lexeme n lexeme)) s))
    (λ (s : IsNotStray o). (
      at + 1,
      run_to n between at x (at + 1) (y ∷ rest) (state_in n lexeme) goes
          (e ∙ not_stray o at (in_lexeme n lexeme) s) refl
          ∙ run_led n lexeme (at + 1) y rest (Err (at, BadToken)) goes f,
    ))
    (stray_or o)

-- no sort that these bytes show is one that may stand
abbrev NoneStands : Nest → ℕ → List ℕ → Type 0
NoneStands n at bytes = (more : List ℕ) (sort : Sort) → Shows sort (bytes ++ more) → Passes (formal 257) n at sort → ⊥

refused_by : (n : Nest) (at : ℕ) (bytes more : List ℕ) (sort : Sort) → length n.begun ≤ 256 → NoneStands n at bytes → Shows sort (bytes ++ more)
    → IsRefusedWith BadToken n at sort
refused_by n at bytes more sort low none shows = stray_refused n at sort low (none more sort shows)

double_stray : (n : Nest) (at x : ℕ) (rest : List ℕ) (m : Mark) → IsGoing n → length n.begun ≤ 256 → NoneStands n at (x ∷ rest)
    → mark_bytes m ≡ x ∷ second_byte m ∷ [] → begin n at x ≡ begin_mark n at m → FailsWith BadToken n at (x ∷ rest)
double_stray n at x [] m goes low none e b =
    let refused = refused_by n at (x ∷ []) (second_byte m ∷ []) (a_mark m) low none ([], sym e ∙ sym (append-nil (mark_bytes m))) in
    at_once BadToken n at x [] goes (b ∙ ap (λ t. if_not_stray (why_of t) at (in_lexeme n (first_of at m))) refused)
double_stray n at x (y ∷ rest) m goes low none e b =
    either_way (y == second_byte m)
    (λ t. let refused = refused_by n at (x ∷ y ∷ rest) [] (a_mark m) low none
    (rest ++ [], ap (λ z. x ∷ z ∷ (rest ++ [])) (eqb-true y (second_byte m) t) ∙ ap (λ l. l ++ (rest ++ [])) (sym e)) in
    at_once BadToken n at x (y ∷ rest) goes (b ∙ ap (λ o. if_not_stray (why_of o) at (in_lexeme n (first_of at m))) refused))
    (λ t. second_fails n at x y rest (why_of (take strict n at (mark m))) (first_of at m) goes b (rw t refl))

minus_stray : (n : Nest) (at x : ℕ) (rest : List ℕ) → IsGoing n → length n.begun ≤ 256 → NoneStands n at (x ∷ rest) → x ≡ 45
    → begin n at x ≡ if_not_stray (refusal_of strict n a_number) at (in_lexeme n (in_minus at)) → FailsWith BadToken n at (x ∷ rest)
minus_stray n at x [] goes low none e b =
    let refused = refused_by n at (x ∷ []) (48 ∷ []) a_number low none (48, [], refl, inr (ap (λ z. z ∷ 48 ∷ []) e)) in
    at_once BadToken n at x [] goes (b ∙ ap (λ o. if_not_stray o at (in_lexeme n (in_minus at))) refused)
minus_stray n at x (y ∷ rest) goes low none e b =
    either_way (is_ascii_digit y)
    (λ t. let refused = refused_by n at (x ∷ y ∷ rest) [] a_number low none (y, rest ++ [], t, inr (ap (λ z. z ∷ y ∷ (rest ++ [])) e)) in
    at_once BadToken n at x (y ∷ rest) goes (b ∙ ap (λ o. if_not_stray o at (in_lexeme n (in_minus at))) refused))
    (λ t. second_fails n at x y rest (refusal_of strict n a_number) (in_minus at) goes b (rw t refl))

other_stray : (n : Nest) (at x : ℕ) (rest : List ℕ) → IsGoing n → length n.begun ≤ 256 → NoneStands n at (x ∷ rest) → begin n at x ≡ begin_other n at x
    → FailsWith BadToken n at (x ∷ rest)
other_stray n at x rest goes low none b =
    either_way (x == 45)
    (λ m. minus_stray n at x rest goes low none (eqb-true x 45 m) (b ∙ rw m refl))
    (λ m. either_way (is_ascii_digit x)
    (λ e. at_once BadToken n at x rest goes (digit_begins n at x e
    ∙ ap (λ o. if_not_refused o at (in_lexeme n (in_number at false (digit false (pos 0) x))))
    (refused_by n at (x ∷ rest) [] a_number low none (x, rest ++ [], e, inl refl))))
    (λ e. either_way (is_ascii_lowercase x)
    (λ l. at_once BadToken n at x rest goes (letter_begins n at x l
    ∙ ap (λ o. if_not_refused o at (in_lexeme n (in_name at (x ∷ [])))) (refused_by n at (x ∷ rest) [] a_plain low none (x, rest ++ [], l, refl))))
    (λ l. either_way (x == 39)
    (λ q. at_once BadToken n at x rest goes (b ∙ rw (m, e, l, q)
    (ap (λ o. if_not_refused o at (in_lexeme n (in_quotes at of_atom [] nothing)))
    (refused_by n at (x ∷ rest) [] a_quoted low none (rest ++ [], ap (λ z. z ∷ (rest ++ [])) (eqb-true x 39 q))))))
    (λ q. either_way (x == 34)
    (λ r. at_once BadToken n at x rest goes (b ∙ rw (m, e, l, q, r)
    (ap (λ o. if_not_refused o at (in_lexeme n (in_quotes at of_string [] nothing)))
    (refused_by n at (x ∷ rest) [] a_string low none (rest ++ [], ap (λ z. z ∷ (rest ++ [])) (eqb-true x 34 r))))))
    (λ r. at_once BadToken n at x rest goes (b ∙ rw (m, e, l, q, r) refl))))))

-- bytes that show no sort that may stand
pub stray_fails : (n : Nest) (at x : ℕ) (rest : List ℕ) → IsGoing n → length n.begun ≤ 256 → is_white x ≡ false → (x == 37) ≡ false
    → ((more : List ℕ) (sort : Sort) → Shows sort ((x ∷ rest) ++ more) → Passes (formal 257) n at sort → ⊥) → FailsWith BadToken n at (x ∷ rest)
stray_fails n at x rest goes low w c none = by_single (single x) refl
  where
    by_double : (o : Option Mark) → single x ≡ None → double x ≡ o → FailsWith BadToken n at (x ∷ rest)
    by_double None s d = other_stray n at x rest goes low none (other_begins n at x w c s d)
    by_double (Some m) s d =
        double_stray n at x rest m goes low none (double_bytes x m d) (rw (w, c) (ap (begin_single n at x) s ∙ ap (begin_double n at x) d))

    by_single : (o : Option Mark) → single x ≡ o → FailsWith BadToken n at (x ∷ rest)
    by_single None s = by_double (double x) s refl
    by_single (Some m) s =
        let refused = refused_by n at (x ∷ rest) [] (a_mark m) low none (rest ++ [], ap (λ l. l ++ (rest ++ [])) (sym (single_bytes x m s))) in
        at_once BadToken n at x rest goes (rw (w, c) (ap (begin_single n at x) s ∙ ap (λ t. led_to t) refused))
