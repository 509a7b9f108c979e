-- How the machine reads white space and comments.
use Rattle.std.proofs.Common.{◌≡◌, ℕ, ◌+◌, List, [], ◌∷◌, ◌++◌, length, length-append, refl, ap, ◌∙◌, sym, arith, append-nil}
use Rattle.text_model.specs.Spelling.{Skips}
use Rattle.text_model.specs.Nest.{Nest, fresh}
use Rattle.text_model.specs.Reader.{Lexeme, between, in_lexeme, outcome, fresh_state, none_there}
use Rattle.text_model.proofs.Comes.{IsGoing}
use Rattle.text_model.proofs.Runs.{going, run}
use Rattle.text_model.proofs.RunSteps.{state_in, at_token, fresh_goes, run_led, run_outcome}
use Rattle.text_model.proofs.GapWalks.{Walks, blank_walks, IsBlankWalk, blank_end_walk}
use Rattle.text_model.specs.Faults.{IsBlankEnd}

pub walk_run : (n : Nest) (l m : Lexeme) (at : ℕ) (bytes more : List ℕ) → IsGoing n → Walks n l bytes m
    → run (state_in n l) at (bytes ++ more) ≡ run (state_in n m) (at + length bytes) more
walk_run n l m at [] more goes e = let none : at + 0 ≡ at = omega arith in rw (none, e)
walk_run n l m at (x ∷ bytes) more goes w =
    let offset : at + 1 + length bytes ≡ at + length (x ∷ bytes) = omega arith in
    run_led n l at x (bytes ++ more) (in_lexeme n w.0) goes (w.2 at)
    ∙ walk_run n w.0 m (at + 1) bytes more goes w.3 ∙ ap (λ o. run (state_in n m) o more) offset

-- where they are all of the bytes
pub walk_end : (n : Nest) (l m : Lexeme) (at : ℕ) (bytes : List ℕ) → IsGoing n → Walks n l bytes m
    → run (state_in n l) at bytes ≡ run (state_in n m) (at + length bytes) []
walk_end n l m at bytes goes w = ap (run (state_in n l) at) (sym (append-nil bytes)) ∙ walk_run n l m at bytes [] goes w

-- white space and comments lead to what follows them
pub blanks_run : (n : Nest) (at next : ℕ) (bytes rest : List ℕ) → IsGoing n → Skips bytes rest → at + length bytes ≡ next + length rest
    → run (at_token n) at bytes ≡ run (at_token n) next rest
blanks_run n at next bytes rest goes (blanks, is, parted) there =
    ap (run (at_token n) at) parted ∙ walk_run n between between at blanks rest goes (blank_walks n blanks is)
    ∙ ap (λ k. run (at_token n) k rest) (let e : at + length blanks ≡ next = omega (arith, ap length parted, length-append blanks rest) in e)

-- and come to no term
pub blank_outcome : (bytes : List ℕ) → IsBlankEnd bytes → outcome fresh_state 0 bytes ≡ none_there
blank_outcome bytes b =
    let end : IsBlankWalk fresh bytes = blank_end_walk fresh bytes b in
    let none = end.whole (0 + length bytes) in
    let gap = end.gap in
    run_outcome fresh_state 0 (0 + length bytes) bytes (going (state_in fresh end.lexeme)) (walk_end fresh between end.lexeme 0 bytes fresh_goes end.walks) refl
    ∙ rw (none, gap) refl
