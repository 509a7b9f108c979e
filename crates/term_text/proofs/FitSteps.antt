-- Each state that bytes lead to keeps terms within their limits.
use Rattle.std.proofs.Common.{◌≡◌, ℕ, ℤ, Bool, true, ◌+◌, ◌-◌, nat_lt, List, [], ◌∷◌, ◌++◌, length, length-append, ◌&&◌, refl, Ok, arith}
use Rattle.std.specs.Prelude.{◌==◌, pos}
use Rattle.std.specs.Char.{is_ascii_digit}
use Rattle.std.proofs.lemmas.Bool.{ltb-true, eqb-true, and_parts}
use Rattle.std.proofs.lemmas.Result.{IfOk-at_ok}
use Rattle.dets_term.specs.TermValue.{atom}
use Rattle.text_model.specs.Token.{mark, number, plain, a_number, is_name_character, fits}
use Rattle.text_model.specs.Grammar.{strict}
use Rattle.text_model.specs.Nest.{Begun, Place, want, Nest, take, leaf, refusal, refusal_of}
use Rattle.text_model.specs.Reader.{Lexeme, between, in_comment, first_of, in_minus, in_number, in_name, in_quotes, State, fresh_state, second_byte}
use Rattle.text_model.specs.Reader.{digit, sequence, led, step, is_want, is_gap, is_blank}
use Rattle.text_nest.specs.Fits.{IsFit}
use Rattle.term_text.specs.StateFits.{lexeme_load, LexemeFits, IsFitState}
use Rattle.text_nest.proofs.FitNests.{HasRoom}
use Rattle.text_nest.proofs.FitTokens.{token_fits}
use Rattle.term_text.proofs.FitLexemes.{LedFits, either_fits, in_lexeme_fits, led_to_fits, unrefused_fits, begin_fits, behind_fits, comment_fits}
use Rattle.term_text.proofs.FitQuotes.{quotes_fit}

pub fresh_fits : IsFitState 0 fresh_state
fresh_fits = record { shallow = tt; apart = tt; place = tt; key = tt; light = omega arith; lexeme = tt }

-- nothing open and no token begun
blank_by : (begun : List Begun) (place : Place) (l : Lexeme) → ((length begun == 0) && is_want place) && is_gap l ≡ true → LexemeFits l
    → IsFitState 0 (record { nest = record { begun = begun; place = place }; lexeme = l })
blank_by [] want between e fit = record { shallow = tt; apart = tt; place = tt; key = tt; light = omega arith; lexeme = fit }
blank_by [] want (in_comment bytes) e fit = record { shallow = tt; apart = tt; place = tt; key = tt; light = omega arith; lexeme = fit }
blank_by [] want l e fit = cc
blank_by [] place l e fit = cc
blank_by (b ∷ bs) place l e fit =
    let none : length (b ∷ bs) ≡ 0 = eqb-true (length (b ∷ bs)) 0 (and_parts _ _ (and_parts _ _ e).0).0 in
    absurd (omega arith)

pub blank_fits : (count : ℕ) (s : State) → IsFitState count s → is_blank s ≡ true → IsFitState 0 s
blank_fits count s f e = blank_by s.nest.begun s.nest.place s.lexeme e f.lexeme

pub more_fits : (count more : ℕ) (s : State) → IsFitState count s → IsFitState (count + more) s
more_fits count more s f =
    record { shallow = f.shallow; apart = f.apart; place = f.place; key = f.key; light = omega arith; lexeme = f.lexeme }

-- the nest alone
pub nest_fits : (count : ℕ) (s : State) → IsFitState count s → IsFit count s.nest
nest_fits count s f =
    record { shallow = f.shallow; apart = f.apart; place = f.place; key = f.key; light = omega arith }

-- with room for the token that is begun
room : (count : ℕ) (s : State) → IsFitState count s → HasRoom count (lexeme_load s.lexeme) s.nest
room count s f = record { shallow = f.shallow; apart = f.apart; place = f.place; key = f.key; light = f.light }

-- behind a number and a name that end
pub number_fits : (count start : ℕ) (n m : Nest) (minus : Bool) (z : ℤ) → IsFitState count (record { nest = n; lexeme = in_number start minus z })
    → take strict n start (number z) ≡ Ok m → IsFit count m
number_fits count start n m minus z f e = IfOk-at_ok (IsFit count) e (token_fits count start n (number z) (room count _ f))

pub name_fits : (count start : ℕ) (n m : Nest) (cs : List ℕ) → IsFitState count (record { nest = n; lexeme = in_name start cs })
    → leaf strict n start (atom cs) (refusal strict n) ≡ Ok m → IsFit count m
name_fits count start n m cs f e = IfOk-at_ok (IsFit count) e (token_fits count start n (plain cs) (room count _ f))

-- ---- one more byte

more_room : (count more : ℕ) (n : Nest) → HasRoom count more n → HasRoom (count + 1) (more + 8) n
more_room count more n r =
    record { shallow = r.shallow; apart = r.apart; place = r.place; key = r.key; light = omega arith }

led_fits : (count at x : ℕ) (n : Nest) (l : Lexeme) → HasRoom count (lexeme_load l) n → LexemeFits l → LedFits (count + 1) (led n at x l)
led_fits count at x n between r fit = begin_fits (count + 1) at x n (more_room count 0 n r)
led_fits count at x n (in_comment bytes) r fit =
    comment_fits (count + 1) 8 (at - length bytes) n (bytes ++ x ∷ []) (sequence (bytes ++ x ∷ [])) (more_room count 0 n r) refl
led_fits count at x n (first_of start m) r fit =
    either_fits (count + 1) (x == second_byte m) _ _
    (λ e. led_to_fits (count + 1) (take strict n start (mark m)) (token_fits (count + 1) start n (mark m) (more_room count 0 n r))) (λ e. tt)
led_fits count at x n (in_minus start) r fit =
    either_fits (count + 1) (is_ascii_digit x) _ _
    (λ e. unrefused_fits (count + 1) start (refusal_of strict n a_number) _
    (in_lexeme_fits (count + 1) 8 n (in_number start true (digit true (pos 0) x)) (more_room count 0 n r) (omega arith) tt)) (λ e. tt)
led_fits count at x n (in_number start minus z) r fit =
    either_fits (count + 1) (is_ascii_digit x) _ _
    (λ e. either_fits (count + 1) (fits (digit minus z x)) _ _
    (λ e. in_lexeme_fits (count + 1) 16 n (in_number start minus (digit minus z x)) (more_room count 8 n r) (omega arith) tt) (λ e. tt))
    (λ e. behind_fits count at x (take strict n start (number z)) (token_fits count start n (number z) r))
led_fits count at x n (in_name start cs) r fit =
    either_fits (count + 1) (is_name_character x) _ _
    (λ e. either_fits (count + 1) (nat_lt (length cs) 255) _ _
    (λ e. let few = ltb-true (length cs) 255 e in
    in_lexeme_fits (count + 1) 8 n (in_name start (cs ++ x ∷ [])) (more_room count 0 n r) (omega arith) (omega (arith, length-append cs (x ∷ [])))) (λ e. tt))
    (λ e. behind_fits count at x (take strict n start (plain cs)) (token_fits count start n (plain cs) r))
led_fits count at x n (in_quotes start q cs p) r fit = quotes_fit (count + 1) start at x n q cs p (more_room count _ n r) fit

pub step_fits : (count at x : ℕ) (s t : State) → IsFitState count s → step s at x ≡ Ok t → IsFitState (count + 1) t
step_fits count at x s t f e = IfOk-at_ok (IsFitState (count + 1)) e (led_fits count at x s.nest s.lexeme (room count s f) f.lexeme)
