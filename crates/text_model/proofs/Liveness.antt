-- Where the machine goes on, what follows decides: no fault is one whatever follows.
use Rattle.std.proofs.Common.{◌≡◌, ℕ, ℤ, ◌+◌, ◌-◌, Bool, true, false, cond, nat_lt, ◌==◌, List, [], ◌∷◌, ◌++◌, length, length-append, Option, Some}
use Rattle.std.proofs.Common.{None, Ok, Err, refl, ap, ◌∙◌, sym, subst, arith}
use Rattle.dets_term.specs.TermValue.{atom}
use Rattle.text_model.specs.declared.fault.TextWhy.{TextWhy}
use Rattle.text_model.specs.declared.fault.TextWhy.TheVariants.{BadToken, BadUtf8, IntegerRange, RepeatedKey, Unfinished}
use Rattle.text_model.specs.Token.{number, plain, a_plain}
use Rattle.text_model.specs.Characters.{number_in}
use Rattle.text_model.specs.Grammar.{strict}
use Rattle.text_model.specs.Nest.{Nest, Taken, refusal_of, leaf, take}
use Rattle.text_model.specs.Faults.{Breaks}
use Rattle.text_model.specs.Reader.{Lexeme, between, in_comment, in_number, in_name, State, fresh_state, part, sequence, number_may_grow, last_fault}
use Rattle.text_model.specs.Reader.{is_blank, Outcome, none_there, faulty, or_unfinished, at_end, outcome}
use Rattle.text_model.proofs.Runs.{going, run, ended, going_on, outcome_run, run_more}
use Rattle.text_model.proofs.Comes.{IsGoing, IsInNumber, Comes}
use Rattle.text_model.proofs.ComesEnds.{at_last_fault}
use Rattle.text_model.proofs.ComesLast.{cut_some}
use Rattle.text_model.proofs.RunsCome.{Goes}
use Rattle.text_model.proofs.Outcomes.{breaks_outcome}
use Rattle.text_model.proofs.GapWalks.{Walks, character_walks}
use Rattle.text_model.proofs.BlanksRead.{walk_end}
use Rattle.text_model.proofs.LongNumbers.{number_gets_wide, number_range}
use Rattle.text_model.proofs.RunSteps.{state_in, run_end, run_outcome, same_outcome, led_fails}
use Rattle.text_model.proofs.CutCharacters.{part_goes_on}

-- some bytes that may follow come to something else than this fault
abbrev Another : State → ℕ → ℕ → TextWhy → Type 0
Another s at o why = (more : List ℕ) × (outcome s at more ≡ faulty o why → ⊥)

why_in : Outcome → TextWhy
why_in (faulty o why) = why
why_in other = Unfinished

same_why : (o u : ℕ) (why other : TextWhy) → faulty o why ≡ faulty u other → why ≡ other
unfolding why_in
same_why o u why other e = ap why_in e

-- ---- numbers

number_another : (p : List ℕ) (n : Nest) (start at : ℕ) (minus : Bool) (z : ℤ) (fault : ℕ × TextWhy) → IsGoing n → IsInNumber p n start minus z
    → take strict n start (number z) ≡ Err fault → Another (state_in n (in_number start minus z)) at fault.0 fault.1
number_another p n start at minus z fault goes i e =
    let wide = number_gets_wide n start at (number_in 10 i.digits) minus goes in (
      wide.0,
      λ f. number_range n start z fault e
          (sym (same_why start fault.0 IntegerRange fault.1
          (sym wide.1 ∙ ap (λ y. outcome (state_in n (in_number start minus y)) at wide.0) (sym i.value) ∙ f))),
    )

-- ---- names

repeated_by : (b : Bool) (at : ℕ) (m : Nest) (fault : ℕ × TextWhy) → cond {A = Taken} b (Err (at, RepeatedKey)) (Ok m) ≡ Err fault → fault.1 ≡ RepeatedKey
repeated_by true at m fault e = let same : fault ≡ (at, RepeatedKey) = cc in ap (λ (p : ℕ × TextWhy). p.1) same
repeated_by false at m fault e = cc

name_another : (n : Nest) (start at : ℕ) (cs : List ℕ) (fault : ℕ × TextWhy) → IsGoing n → refusal_of strict n a_plain ≡ None
    → nat_lt (length cs) 255 ≡ false → take strict n start (plain cs) ≡ Err fault → Another (state_in n (in_name start cs)) at fault.0 fault.1
name_another n start at cs fault goes place full e =
    let repeats : fault.1 ≡ RepeatedKey = repeated_by _ start _ fault (ap (leaf strict n start (atom cs)) (sym place) ∙ e) in
    let fails : outcome (state_in n (in_name start cs)) at (97 ∷ []) ≡ faulty start BadToken =
    led_fails n (in_name start cs) at 97 start [] BadToken goes (rw full) in
    (97 ∷ [], λ f. let same = same_why start fault.0 BadToken fault.1 (sym fails ∙ f) in let clash : BadToken ≡ RepeatedKey = same ∙ repeats in cc)

-- ---- comments

-- where the input ends and no fault is told
pub end_or_none : (b : Bool) (end o : ℕ) (why : TextWhy) → cond b none_there (faulty end Unfinished) ≡ faulty o why → why ≡ Unfinished
end_or_none true end o why e = cc
end_or_none false end o why e = sym (same_why end o Unfinished why e)

going_end : (s : State) (at : ℕ) → IsGoing s.nest → outcome s at [] ≡ at_end s at
going_end s at goes = run_outcome s at at [] (going s) (run_end s.nest s.lexeme at goes) (omega arith)

no_bad_end : (n : Nest) (end o : ℕ) (b : Bool) → IsGoing n → outcome (state_in n (cond b between (in_comment []))) end [] ≡ faulty o BadUtf8 → ⊥
no_bad_end n end o true goes e =
    let same = end_or_none (is_blank (state_in n between)) end o BadUtf8 (sym (going_end (state_in n between) end goes) ∙ e) in cc
no_bad_end n end o false goes e =
    let same = end_or_none (is_blank (state_in n (in_comment []))) end o BadUtf8 (sym (going_end (state_in n (in_comment [])) end goes) ∙ e) in cc

comment_another : (n : Nest) (at o : ℕ) (bytes : List ℕ) → IsGoing n → sequence bytes ≡ part → Another (state_in n (in_comment bytes)) at o BadUtf8
comment_another n at o bytes goes e =
    let on = part_goes_on bytes e in
    let more = on.1 in
    let k = cond (on.0 == 10) between (in_comment []) in
    let walks : Walks n (in_comment bytes) more k = character_walks n on.0 bytes more on.2 (sym on.3) on.4 in
    let comes : outcome (state_in n (in_comment bytes)) at more ≡ outcome (state_in n k) (at + length more) [] =
    same_outcome (state_in n (in_comment bytes)) (state_in n k) at (at + length more) more [] _
    (walk_end n (in_comment bytes) k at more goes walks) (omega arith) refl in
    (more, λ f. no_bad_end n (at + length more) o (on.0 == 10) goes (sym comes ∙ f))

-- ---- all of them

another : (p : List ℕ) (n : Nest) (l : Lexeme) (fault : ℕ × TextWhy) → IsGoing n → Comes p n l → last_fault n (length p) l ≡ Some fault
    → Another (state_in n l) (length p) fault.0 fault.1
another p n (in_comment (x ∷ xs)) fault goes c e =
    let same : (length p - length (x ∷ xs), BadUtf8) ≡ fault = cc in
    subst (λ (f : ℕ × TextWhy). Another (state_in n (in_comment (x ∷ xs))) (length p) f.0 f.1) same
    (comment_another n (length p) (length p - length (x ∷ xs)) (x ∷ xs) goes (cut_some x xs c.0))
another p n (in_number start minus z) fault goes c e =
    let last = at_last_fault (number_may_grow n minus z) (take strict n start (number z)) fault e in
    number_another p n start (length p) minus z fault goes c.1 last.1
another p n (in_name start cs) fault goes c e =
    let last = at_last_fault (nat_lt (length cs) 255) (take strict n start (plain cs)) fault e in
    name_another n start (length p) cs fault goes c.2 last.0 last.1
another p n other fault goes c e = cc

-- ---- what goes on

-- what follows comes to what the state behind some bytes comes to with it
outcome_behind : (p more : List ℕ) (s : State) → run fresh_state 0 p ≡ going s → outcome fresh_state 0 (p ++ more) ≡ outcome s (length p) more
outcome_behind p more s e =
    let none : 0 + length p ≡ length p = omega arith in
    let led : run fresh_state 0 (p ++ more) ≡ run s (length p) more =
    sym (run_more fresh_state 0 p more) ∙ ap (λ r. going_on r (0 + length p) more) e ∙ ap (λ o. run s o more) none in
    sym (outcome_run fresh_state 0 (p ++ more)) ∙ ap (λ r. ended r (0 + length (p ++ more))) led
    ∙ ap (ended (run s (length p) more)) (let k : 0 + length (p ++ more) ≡ length p + length more = omega (arith, length-append p more) in k)
    ∙ outcome_run s (length p) more

-- a rule is not that the input ends too early
pub breaks_why : (bytes : List ℕ) (o : ℕ) (why : TextWhy) → Breaks bytes o why → why ≡ Unfinished → ⊥
breaks_why bytes o why b e = subst (Breaks bytes o) e b

live_by : (p : List ℕ) (s : State) (o : ℕ) (why : TextWhy) (last : Option (ℕ × TextWhy)) → Goes p s → last_fault s.nest (length p) s.lexeme ≡ last
    → (why ≡ Unfinished → ⊥) → ((more : List ℕ) → outcome s (length p) more ≡ faulty o why) → ⊥
live_by p s o why None g e h all =
    h (end_or_none (is_blank s) (length p) o why (sym (ap (or_unfinished s (length p)) e) ∙ sym (going_end s (length p) g.going) ∙ all []))
live_by p s o why (Some fault) g e h all =
    let told : faulty fault.0 fault.1 ≡ faulty o why = sym (ap (or_unfinished s (length p)) e) ∙ sym (going_end s (length p) g.going) ∙ all [] in
    let other = another p s.nest s.lexeme fault g.going g.comes e in
    other.1 (all other.0 ∙ sym told)

-- no rule is broken whatever follows
pub live : (p : List ℕ) (s : State) (o : ℕ) (why : TextWhy) → Goes p s → run fresh_state 0 p ≡ going s
    → ((more : List ℕ) → Breaks (p ++ more) o why) → ⊥
live p s o why g e all =
    live_by p s o why (last_fault s.nest (length p) s.lexeme) g refl (breaks_why (p ++ []) o why (all []))
    (λ more. sym (outcome_behind p more s e) ∙ breaks_outcome (p ++ more) o why (all more))
