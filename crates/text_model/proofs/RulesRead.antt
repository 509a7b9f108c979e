-- How the machine reads numbers and names that break a rule, and a full stop that is no end.
use Rattle.std.proofs.Common.{◌≡◌, ℕ, ◌+◌, ◌-◌, true, false, ◌||◌, ◌==◌, Some, length, List, [], ◌∷◌, ◌++◌, Ok, refl, ap, ◌∙◌, sym, subst}
use Rattle.std.proofs.Common.{append_assoc, append-nil, arith}
use Rattle.dets_term.specs.TermValue.{TermValue}
use Rattle.text_model.specs.declared.fault.TextWhy.TheVariants.{BadToken, IntegerRange}
use Rattle.text_model.specs.declared.mark.Mark.TheVariants.{FullStop}
use Rattle.text_model.specs.Token.{Token, mark, a_number, a_plain, fits}
use Rattle.text_model.specs.Spelling.{is_white}
use Rattle.text_model.specs.Grammar.{strict, IsText}
use Rattle.text_model.specs.Nest.{Nest, fresh, stopped, take}
use Rattle.text_model.specs.Located.{tokens_of, take_all}
use Rattle.text_model.specs.Sentence.{ends}
use Rattle.text_model.specs.Faults.{IsOutOfRange, IsLongPlain, IsNoEnd}
use Rattle.text_model.specs.Reader.{between, led_to, faulty, behind_stop, outcome}
use Rattle.text_model.proofs.Comes.{IsGoing, sign}
use Rattle.text_model.proofs.Runs.{run, at_stop}
use Rattle.text_model.proofs.TakenSteps.{tokens_of-append, next_taken}
use Rattle.text_model.proofs.TextTaken.{text_taken}
use Rattle.text_model.proofs.NumbersRead.{wide_number}
use Rattle.text_model.proofs.NamesRead.{long_name}
use Rattle.text_model.proofs.WellRead.{stop_run}
use Rattle.text_model.proofs.RunSteps.{at_token, fails_outcome, run_led, run_outcome}
use Rattle.text_model.proofs.Passes.{in_place_passes}

-- ---- numbers and names

pub long_plain_read : (ps : List (ℕ × Token)) (n : Nest) (at : ℕ) (rest : List ℕ) → take_all strict fresh ps ≡ Ok n → IsGoing n
    → IsLongPlain (tokens_of ps) rest → outcome (at_token n) at rest ≡ faulty at BadToken
long_plain_read ps n at rest e goes b =
    let front = b.front in
    let long = long_name n at b.characters front.0 goes (in_place_passes ps n rest a_plain e refl b.in_place) b.name b.long in
    fails_outcome (at_token n) at long.0 at BadToken rest (ap (run (at_token n) at) front.1 ∙ long.1)

pub out_of_range_read : (ps : List (ℕ × Token)) (n : Nest) (at : ℕ) (rest : List ℕ) → take_all strict fresh ps ≡ Ok n → IsGoing n
    → IsOutOfRange (tokens_of ps) rest → outcome (at_token n) at rest ≡ faulty at IntegerRange
out_of_range_read ps n at rest e goes b =
    let front = b.front in
    let i = b.number in
    let whole : rest ≡ sign i.minus ++ (i.digits ++ front.0) =
    front.1 ∙ ap (λ l. l ++ front.0) (i.whole ∙ ap (λ l. sign i.minus ++ l) (append-nil i.digits)) ∙ append_assoc (sign i.minus) i.digits front.0 in
    let wide = wide_number n at i.minus i.digits front.0 goes (in_place_passes ps n rest a_number e refl b.in_place) i.some i.decimal
    (ap fits (sym i.value) ∙ b.wide) in
    fails_outcome (at_token n) at wide.0 at IntegerRange rest (ap (run (at_token n) at) whole ∙ wide.1)

-- ---- a full stop that is no end

behind_no_end : (t : TermValue) (at : ℕ) (behind : List ℕ) → ends true behind ≡ Some false → behind_stop t (at + 1) behind ≡ faulty at BadToken
behind_no_end t at [] e = cc
behind_no_end t at (x ∷ behind) e =
    let no : (is_white x || x == 37) ≡ false = cc in
    rw no (ap (λ k. faulty k BadToken) (let back : at + 1 - 1 ≡ at = omega arith in back))

pub no_end_read : (ps : List (ℕ × Token)) (n : Nest) (at : ℕ) (rest : List ℕ) → take_all strict fresh ps ≡ Ok n → IsGoing n
    → IsNoEnd (tokens_of ps) rest → outcome (at_token n) at rest ≡ faulty at BadToken
no_end_read ps n at rest e goes b =
    let m : Nest = record { begun = []; place = stopped b.term } in
    let taken : take_all strict fresh (ps ++ (at, mark FullStop) ∷ []) ≡ Ok m =
    text_taken strict b.term (ps ++ (at, mark FullStop) ∷ []) (subst (IsText strict b.term) (sym (tokens_of-append ps ((at, mark FullStop) ∷ []))) b.text) in
    let stop : take strict n at (mark FullStop) ≡ Ok m = next_taken strict n m ps at (mark FullStop) e taken in
    run_outcome (at_token n) at (at + length rest) rest (at_stop b.term (at + 1) b.behind)
    (ap (run (at_token n) at) b.stop ∙ run_led n between at 46 b.behind (Ok (record { nest = m; lexeme = between })) goes (ap led_to stop)
    ∙ stop_run b.term (at + 1) b.behind) refl
    ∙ behind_no_end b.term at b.behind b.no_end
