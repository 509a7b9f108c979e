-- What is in front of a sentence's first token: white space and comments, which the limit on the length of a text does not count.
use Rattle.std.proofs.Common.{◌≡◌, ℕ, ◌+◌, Bool, true, false, cond, ◌&&◌, ◌==◌, List, [], ◌∷◌, ◌++◌, length, eqb-true, Ok, Err, refl, ap, ◌∙◌, arith}
use Rattle.std.proofs.Common.{Option, Some, None, sym}
use Rattle.std.proofs.lemmas.Bool.{and_parts}
use Rattle.std.proofs.lemmas.Bool.Decides.{nat_tests}
use Rattle.text_model.specs.declared.fault.TextWhy.{TextWhy}
use Rattle.text_model.specs.Sentence.{longest}
use Rattle.text_model.specs.Nest.{Begun, fresh}
use Rattle.text_model.specs.Reader.{Lexeme, State, Led, in_lexeme, is_gap, is_blank, led, begin_other, begin_double, begin_single, double, single, begin}
use Rattle.text_model.specs.Progress.{Progress, going as all_read, failing as failed, counted, reach_by, reach}
use Rattle.text_model.proofs.Runs.{going, failing, run}
use Rattle.text_model.proofs.RunSteps.{state_in, fresh_goes, run_led}
use Rattle.text_model.proofs.Limited.{if_gt}
use Rattle.text_model.proofs.GapWalks.{Walks}
use Rattle.text_model.proofs.ReachedNests.{is_wanted}
use Rattle.std.specs.Char.{is_ascii_digit, is_ascii_lowercase}
use Rattle.text_model.specs.declared.mark.Mark.{Mark}
use Rattle.text_model.specs.declared.mark.Mark.TheVariants.{FullStop}
use Rattle.text_model.specs.Spelling.{is_white}
use Rattle.text_model.proofs.ComesTokens.{by_test}

-- so many bytes were read, and no token is begun
abbrev pub blank_at : Lexeme → ℕ → Progress
blank_at l at = record { state = state_in fresh l; read = at; blank = at }

counted_blank : (l k : Lexeme) (at : ℕ) → is_gap k ≡ true → counted (blank_at l at) (state_in fresh k) ≡ blank_at k (at + 1)
counted_blank l k at e =
    let same : (at == at) ≡ true = grind (arith, nat_tests) in
    ap (λ (b : Bool). record { state = state_in fresh k; read = at + 1; blank = cond b (at + 1) at }) (ap (λ b. b && is_gap k) same ∙ e)

pub counted_begun : (l : Lexeme) (t : State) (at : ℕ) → is_blank t ≡ false
    → counted (blank_at l at) t ≡ record { state = t; read = at + 1; blank = at }
counted_begun l t at e =
    let same : (at == at) ≡ true = grind (arith, nat_tests) in
    ap (λ (b : Bool). record { state = t; read = at + 1; blank = cond b (at + 1) at }) (ap (λ b. b && is_blank t) same ∙ e)

pub reach_step : (l : Lexeme) (at x : ℕ) (rest : List ℕ)
    → reach (blank_at l at) (x ∷ rest) ≡ reach_by (led fresh at x l) (λ s. reach (counted (blank_at l at) s) rest)
reach_step l at x rest = if_gt (at + longest) at _ _ (omega arith)

reach_gap : (l k : Lexeme) (at x : ℕ) (rest : List ℕ) → is_gap k ≡ true → led fresh at x l ≡ in_lexeme fresh k
    → reach (blank_at l at) (x ∷ rest) ≡ reach (blank_at k (at + 1)) rest
reach_gap l k at x rest gap e =
    reach_step l at x rest ∙ ap (λ d. reach_by d (λ s. reach (counted (blank_at l at) s) rest)) e ∙ ap (λ p. reach p rest) (counted_blank l k at gap)

pub walk_reach : (l m : Lexeme) (at : ℕ) (bytes more : List ℕ) → Walks fresh l bytes m
    → reach (blank_at l at) (bytes ++ more) ≡ reach (blank_at m (at + length bytes)) more
walk_reach l m at [] more e = let none : at + 0 ≡ at = omega arith in rw (none, e)
walk_reach l m at (x ∷ bytes) more w =
    let offset : at + 1 + length bytes ≡ at + length (x ∷ bytes) = omega arith in
    reach_gap l w.0 at x (bytes ++ more) w.1 (w.2 at) ∙ walk_reach w.0 m (at + 1) bytes more w.3 ∙ ap (λ o. reach (blank_at m o) more) offset

-- ---- what is in front

-- No token begins at all; a byte among the blanks is at fault; or a token begins.
pub data Front (l : Lexeme) (at : ℕ) (bytes : List ℕ) : Type 0 where
  all_blank : (m : Lexeme) → is_gap m ≡ true → reach (blank_at l at) bytes ≡ all_read (blank_at m (at + length bytes))
      → run (state_in fresh l) at bytes ≡ going (state_in fresh m) → Front l at bytes
  none_begins : (last o : ℕ) (why : TextWhy) → reach (blank_at l at) bytes ≡ failed o why → run (state_in fresh l) at bytes ≡ failing last o why
      → Front l at bytes
  begun : (front : List ℕ) (x : ℕ) (rest : List ℕ) (m : Lexeme) (t : State) → bytes ≡ front ++ x ∷ rest → is_gap m ≡ true
      → run (state_in fresh l) at front ≡ going (state_in fresh m) → led fresh (at + length front) x m ≡ Ok t → is_blank t ≡ false → Front l at bytes

none_open : (bs : List Begun) → (length bs == 0) ≡ true → bs ≡ []
none_open [] e = refl
none_open (b ∷ bs) e = absurd (omega (arith, eqb-true (length (b ∷ bs)) 0 e))

-- a state with no token begun
blank_state : (s : State) → is_blank s ≡ true → (s ≡ state_in fresh s.lexeme) × (is_gap s.lexeme ≡ true)
blank_state s e =
    let parts = and_parts _ _ e in
    let nest = and_parts _ _ parts.0 in (
      ap (λ bs. record { nest = record { begun = bs; place = s.nest.place }; lexeme = s.lexeme }) (none_open s.nest.begun nest.0)
          ∙ ap (λ p. record { nest = record { begun = []; place = p }; lexeme = s.lexeme }) (is_wanted s.nest.place nest.1),
      parts.1,
    )

behind_gap : (l k : Lexeme) (at x : ℕ) (rest : List ℕ) → is_gap k ≡ true → led fresh at x l ≡ in_lexeme fresh k → Front k (at + 1) rest
    → Front l at (x ∷ rest)
behind_gap l k at x rest gap e (all_blank m g r u) =
    let offset : at + 1 + length rest ≡ at + length (x ∷ rest) = omega arith in
    all_blank m g (reach_gap l k at x rest gap e ∙ r ∙ ap (λ o. all_read (blank_at m o)) offset) (run_led fresh l at x rest _ fresh_goes e ∙ u)
behind_gap l k at x rest gap e (none_begins last o why r u) =
    none_begins last o why (reach_gap l k at x rest gap e ∙ r) (run_led fresh l at x rest _ fresh_goes e ∙ u)
behind_gap l k at x rest gap e (begun front y others m t whole g u d b) =
    let offset : at + length (x ∷ front) ≡ at + 1 + length front = omega arith in
    begun (x ∷ front) y others m t (ap (λ q. x ∷ q) whole) g (run_led fresh l at x front _ fresh_goes e ∙ u)
    (ap (λ o. led fresh o y m) offset ∙ d) b

pub front_of : (l : Lexeme) (at : ℕ) (bytes : List ℕ) → is_gap l ≡ true → Front l at bytes
front_of l at [] gap =
    all_blank l gap (if_gt (at + longest) at _ _ (omega arith) ∙ ap (λ o. all_read (blank_at l o)) (let e : at ≡ at + 0 = omega arith in e)) refl
front_of l at (x ∷ rest) gap = by (λ k g. front_of k (at + 1) rest g) (led fresh at x l) refl
  where
    by_blank : (t : State) (b : Bool) → ((k : Lexeme) → is_gap k ≡ true → Front k (at + 1) rest) → is_blank t ≡ b → led fresh at x l ≡ Ok t
        → Front l at (x ∷ rest)
    by_blank t true further e d =
        let is = blank_state t e in behind_gap l t.lexeme at x rest is.1 (d ∙ ap Ok is.0) (further t.lexeme is.1)
    by_blank t false further e d = begun [] x rest l t refl gap refl (ap (λ o. led fresh o x l) (let k : at + 0 ≡ at = omega arith in k) ∙ d) e

    by : ((k : Lexeme) → is_gap k ≡ true → Front k (at + 1) rest) → (d : Led) → led fresh at x l ≡ d → Front l at (x ∷ rest)
    by further (Ok t) e = by_blank t (is_blank t) further refl e
    by further (Err fault) e =
        none_begins at fault.0 fault.1 (reach_step l at x rest ∙ ap (λ d. reach_by d (λ s. reach (counted (blank_at l at) s) rest)) e)
        (run_led fresh l at x rest (Err fault) fresh_goes e)

-- ---- a byte that is neither white space nor begins a comment begins a token or is at fault

-- what a byte leads to is a state with a token begun
abbrev IsBegun : Led → Type 0
IsBegun led = (t : State) → led ≡ Ok t → is_blank t ≡ false

chosen : (b : Bool) (x y : Led) → IsBegun x → IsBegun y → IsBegun (cond b x y)
chosen b x y f g = by_test IsBegun b x y (λ e. f) (λ e. g)

other_begun : (at x : ℕ) → IsBegun (begin_other fresh at x)
other_begun at x =
    chosen (x == 45) _ _ (λ t e. cc) (chosen (is_ascii_digit x) _ _ (λ t e. cc) (chosen (is_ascii_lowercase x) _ _ (λ t e. cc)
    (chosen (x == 39) _ _ (λ t e. cc) (chosen (x == 34) _ _ (λ t e. cc) (λ t e. cc)))))

double_begun : (at x : ℕ) (m : Option Mark) → IsBegun (begin_double fresh at x m)
double_begun at x None t e = other_begun at x t e
double_begun at x (Some FullStop) t e = cc
double_begun at x other t e = cc

single_begun : (at x : ℕ) (m : Option Mark) → IsBegun (begin_single fresh at x m)
single_begun at x None t e = double_begun at x (double x) t e
single_begun at x (Some FullStop) t e = cc
single_begun at x other t e = cc

pub begin_begun : (at x : ℕ) (t : State) → is_white x ≡ false → (x == 37) ≡ false → begin fresh at x ≡ Ok t → is_blank t ≡ false
begin_begun at x t white comment e = single_begun at x (single x) t (sym (rw (white, comment)) ∙ e)
