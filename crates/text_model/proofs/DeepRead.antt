-- How the machine reads a token that could stand only one level deeper, and the rules on what may stand.
use Rattle.std.proofs.Common.{◌≡◌, ℕ, pos, ◌+◌, ◌||◌, ◌==◌, true, false, cond, List, [], ◌∷◌, ◌++◌, Some, Ok, Err, refl, ap, ◌∙◌, inl, inr, arith}
use Rattle.std.proofs.lemmas.Bool.{or_parts}
use Rattle.std.specs.Char.{is_ascii_digit}
use Rattle.text_model.specs.declared.fault.TextWhy.TheVariants.{BadToken, Depth}
use Rattle.text_model.specs.declared.mark.Mark.{Mark}
use Rattle.text_model.specs.Token.{Token, Sort, mark, a_mark, a_number, a_plain, a_quoted, a_string, mark_bytes}
use Rattle.text_model.specs.Spelling.{is_white}
use Rattle.text_model.specs.Grammar.{strict, formal}
use Rattle.text_model.specs.Nest.{Nest, fresh, refusal_of, take}
use Rattle.text_model.specs.Located.{tokens_of, take_all}
use Rattle.text_model.specs.Sentence.{ends}
use Rattle.text_model.specs.Faults.{Shows, IsStray, IsDeep}
use Rattle.text_model.specs.Reader.{of_atom, of_string, nothing, between, in_minus, in_number, in_name, in_quotes, in_lexeme, bad, if_not_refused}
use Rattle.text_model.specs.Reader.{if_not_stray, why_of, digit, faulty, outcome}
use Rattle.text_model.proofs.Comes.{IsGoing}
use Rattle.text_model.proofs.ReachedNests.{IsReached}
use Rattle.text_model.proofs.Reaching.{reached}
use Rattle.text_model.proofs.Runs.{run}
use Rattle.text_model.proofs.WordsRead.{digit_begins, letter_begins}
use Rattle.text_model.proofs.WholeTokensRead.{may_be, token_read, read_refused}
use Rattle.text_model.proofs.StraysRead.{FailsWith, at_once, stray_fails}
use Rattle.text_model.proofs.RunSteps.{at_token, fails_outcome, run_led, run_to, state_in}
use Rattle.text_model.proofs.Looser.{formal_taken, deeper_taken}
use Rattle.text_model.proofs.Verdicts.{IsRefusedWith, deep_refused}
use Rattle.text_model.proofs.Passes.{passes_may_stand, may_stand_passes}

deep_mark : (n : Nest) (at : ℕ) (m : Mark) (behind : List ℕ) → IsGoing n → take strict n at (mark m) ≡ Err (at, Depth)
    → FailsWith Depth n at (mark_bytes m ++ behind)
deep_mark n at m behind goes e =
    let read = token_read n at (mark m) (mark_bytes m ++ behind) behind goes (may_be n at m (λ f. let t = ap why_of e in cc)) tt (tt, refl) in
    (read.last, read_refused n at (mark m) (mark_bytes m ++ behind) behind (at, Depth) read e)

deep_minus : (n : Nest) (at d : ℕ) (rest : List ℕ) → IsGoing n → is_ascii_digit d ≡ true → refusal_of strict n a_number ≡ Some Depth
    → FailsWith Depth n at (45 ∷ d ∷ rest)
deep_minus n at d rest goes e f = (
  at + 1,
  run_to n between at 45 (at + 1) (d ∷ rest) (state_in n (in_minus at)) goes
      (ap (λ o. if_not_stray o at (in_lexeme n (in_minus at))) f) refl
      ∙ run_led n (in_minus at) (at + 1) d rest (Err (at, Depth)) goes
      (ap (λ b. cond b (if_not_refused (refusal_of strict n a_number) at (in_lexeme n (in_number at true (digit true (pos 0) d)))) (bad at)) e
      ∙ ap (λ o. if_not_refused o at (in_lexeme n (in_number at true (digit true (pos 0) d)))) f),
)

deep_fails : (n : Nest) (at : ℕ) (sort : Sort) (rest : List ℕ) → IsGoing n → IsRefusedWith Depth n at sort → Shows sort rest → FailsWith Depth n at rest
deep_fails n at (a_mark m) rest goes e (behind, s) =
    let fails = deep_mark n at m behind goes e in (fails.0, ap (run (at_token n) at) s ∙ fails.1)
deep_fails n at a_number rest goes e (d, behind, t, inl s) =
    let fails = at_once Depth n at d behind goes (digit_begins n at d t
    ∙ ap (λ o. if_not_refused o at (in_lexeme n (in_number at false (digit false (pos 0) d)))) e) in
    (fails.0, ap (run (at_token n) at) s ∙ fails.1)
deep_fails n at a_number rest goes e (d, behind, t, inr s) =
    let fails = deep_minus n at d behind goes t e in (fails.0, ap (run (at_token n) at) s ∙ fails.1)
deep_fails n at a_plain rest goes e (c, behind, t, s) =
    let fails = at_once Depth n at c behind goes (letter_begins n at c t ∙ ap (λ o. if_not_refused o at (in_lexeme n (in_name at (c ∷ [])))) e) in
    (fails.0, ap (run (at_token n) at) s ∙ fails.1)
deep_fails n at a_quoted rest goes e (behind, s) =
    let fails = at_once Depth n at 39 behind goes (ap (λ o. if_not_refused o at (in_lexeme n (in_quotes at of_atom [] nothing))) e) in
    (fails.0, ap (run (at_token n) at) s ∙ fails.1)
deep_fails n at a_string rest goes e (behind, s) =
    let fails = at_once Depth n at 34 behind goes (ap (λ o. if_not_refused o at (in_lexeme n (in_quotes at of_string [] nothing))) e) in
    (fails.0, ap (run (at_token n) at) s ∙ fails.1)

-- ---- the rules

pub stray_read : (ps : List (ℕ × Token)) (n : Nest) (at : ℕ) (rest : List ℕ) → take_all strict fresh ps ≡ Ok n → IsGoing n → ends false rest ≡ Some false
    → IsStray (tokens_of ps) rest → outcome (at_token n) at rest ≡ faulty at BadToken
stray_read ps n at [] e goes begins b = cc
stray_read ps n at (x ∷ rest) e goes begins b =
    let no : (is_white x || x == 37) ≡ false = cc in
    let parts = or_parts (is_white x) (x == 37) no in
    let r : IsReached strict n = reached strict n ps (omega arith) e in
    let fails = stray_fails n at x rest goes r.shallow parts.0 parts.1
    (λ more sort shows passes. b.none more sort shows (passes_may_stand 257 (omega arith) ps n at sort (deeper_taken ps n e) passes)) in
    fails_outcome (at_token n) at fails.0 at BadToken (x ∷ rest) fails.1

pub deep_read : (ps : List (ℕ × Token)) (n : Nest) (at : ℕ) (rest : List ℕ) → take_all strict fresh ps ≡ Ok n → IsGoing n
    → IsDeep (tokens_of ps) rest → outcome (at_token n) at rest ≡ faulty at Depth
deep_read ps n at rest e goes b =
    let refused = deep_refused n at b.sort (reached strict n ps (omega arith) e).shallow
    (may_stand_passes (formal 257) ps n at b.sort (deeper_taken ps n e) b.deeper)
    (λ passes. b.not_here (passes_may_stand 256 (omega arith) ps n at b.sort (formal_taken ps n e) passes)) in
    let fails = deep_fails n at b.sort rest goes refused b.shows in
    fails_outcome (at_token n) at fails.0 at Depth rest fails.1
