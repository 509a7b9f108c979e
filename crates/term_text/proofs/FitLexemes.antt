-- A byte that begins a token, or stands in a comment, keeps what is open within the limits of terms.
use Rattle.std.proofs.Common.{◌≡◌, ℕ, ◌+◌, ◌≤◌, Bool, true, false, cond, List, [], ◌∷◌, Option, Some, None, Ok, Err, IfOk, arith}
use Rattle.std.specs.Prelude.{◌==◌, pos}
use Rattle.std.specs.Char.{is_ascii_digit, is_ascii_lowercase}
use Rattle.std.proofs.lemmas.Bool.{cond_both}
use Rattle.text_model.specs.declared.mark.Mark.{Mark}
use Rattle.text_model.specs.declared.fault.TextWhy.{TextWhy}
use Rattle.text_model.specs.declared.fault.TextWhy.TheVariants.{BadToken}
use Rattle.text_model.specs.Token.{mark, a_number, a_plain, a_quoted, a_string}
use Rattle.text_model.specs.Spelling.{is_white}
use Rattle.text_model.specs.Grammar.{strict}
use Rattle.text_model.specs.Nest.{Nest, Taken, take, refusal_of}
use Rattle.text_model.specs.Reader.{nothing, of_atom, of_string, Lexeme, between, in_comment, first_of, in_minus, in_number, in_name, in_quotes, Led}
use Rattle.text_model.specs.Reader.{led_to, in_lexeme, if_not_refused, if_not_stray, why_of, begin_other, begin_double, begin_single, single, double}
use Rattle.text_model.specs.Reader.{digit, begin, begin_behind, Sequence, whole, part, wrong, sequence, comment_led}
use Rattle.text_nest.specs.Fits.{IsFit}
use Rattle.term_text.specs.StateFits.{lexeme_load, LexemeFits, IsFitState}
use Rattle.text_nest.proofs.FitNests.{HasRoom, TakenFits}
use Rattle.text_nest.proofs.FitTokens.{token_fits}
use Rattle.term_text.proofs.FitSequences.{part_is_short}

-- a byte leads to nothing but states that fit
abbrev pub LedFits : ℕ → Led → Type 0
LedFits count led = IfOk led (IsFitState count)

pub either_fits : (count : ℕ) (b : Bool) (x y : Led) → (b ≡ true → LedFits count x) → (b ≡ false → LedFits count y) → LedFits count (cond b x y)
either_fits count b x y f g = cond_both b x y (LedFits count) f g

-- less room is enough for less
pub room_less : (count more less : ℕ) (n : Nest) → HasRoom count more n → less ≤ more → HasRoom count less n
room_less count more less n r few =
    record { shallow = r.shallow; apart = r.apart; place = r.place; key = r.key; light = omega arith }

-- one more byte makes room
pub room_anew : (count : ℕ) (n : Nest) → IsFit count n → HasRoom (count + 1) 8 n
room_anew count n f =
    record { shallow = f.shallow; apart = f.apart; place = f.place; key = f.key; light = omega arith }

pub in_lexeme_fits : (count more : ℕ) (n : Nest) (l : Lexeme) → HasRoom count more n → lexeme_load l ≤ more → LexemeFits l → LedFits count (in_lexeme n l)
in_lexeme_fits count more n l r few fit =
    record { shallow = r.shallow; apart = r.apart; place = r.place; key = r.key; light = omega arith; lexeme = fit }

pub led_to_fits : (count : ℕ) (taken : Taken) → TakenFits count taken → LedFits count (led_to taken)
led_to_fits count (Ok m) f =
    record { shallow = f.shallow; apart = f.apart; place = f.place; key = f.key; light = omega arith; lexeme = tt }
led_to_fits count (Err fault) f = tt

-- ---- the first byte of a token

pub unrefused_fits : (count start : ℕ) (o : Option TextWhy) (next : Led) → LedFits count next → LedFits count (if_not_refused o start next)
unrefused_fits count start None next f = f
unrefused_fits count start (Some why) next f = tt

stray_fits : (count start : ℕ) (o : Option TextWhy) (next : Led) → LedFits count next → LedFits count (if_not_stray o start next)
stray_fits count start (Some BadToken) next f = tt
stray_fits count start other next f = f

begin_other_fits : (count at x : ℕ) (n : Nest) → HasRoom count 8 n → LedFits count (begin_other n at x)
begin_other_fits count at x n r =
    either_fits count (x == 45) _ _
    (λ e. stray_fits count at (refusal_of strict n a_number) _ (in_lexeme_fits count 8 n (in_minus at) r (omega arith) tt))
    (λ e. either_fits count (is_ascii_digit x) _ _
    (λ e. unrefused_fits count at (refusal_of strict n a_number) _
    (in_lexeme_fits count 8 n (in_number at false (digit false (pos 0) x)) r (omega arith) tt))
    (λ e. either_fits count (is_ascii_lowercase x) _ _
    (λ e. unrefused_fits count at (refusal_of strict n a_plain) _ (in_lexeme_fits count 8 n (in_name at (x ∷ [])) r (omega arith) (omega arith)))
    (λ e. either_fits count (x == 39) _ _
    (λ e. unrefused_fits count at (refusal_of strict n a_quoted) _
    (in_lexeme_fits count 8 n (in_quotes at of_atom [] nothing) r (omega arith) (omega arith, tt)))
    (λ e. either_fits count (x == 34) _ _
    (λ e. unrefused_fits count at (refusal_of strict n a_string) _ (in_lexeme_fits count 8 n (in_quotes at of_string [] nothing) r (omega arith) tt))
    (λ e. tt)))))

begin_double_fits : (count at x : ℕ) (n : Nest) (o : Option Mark) → HasRoom count 8 n → LedFits count (begin_double n at x o)
begin_double_fits count at x n (Some m) r =
    stray_fits count at (why_of (take strict n at (mark m))) _ (in_lexeme_fits count 8 n (first_of at m) r (omega arith) tt)
begin_double_fits count at x n None r = begin_other_fits count at x n r

begin_single_fits : (count at x : ℕ) (n : Nest) (o : Option Mark) → HasRoom count 8 n → LedFits count (begin_single n at x o)
begin_single_fits count at x n (Some m) r = led_to_fits count (take strict n at (mark m)) (token_fits count at n (mark m) r)
begin_single_fits count at x n None r = begin_double_fits count at x n (double x) r

pub begin_fits : (count at x : ℕ) (n : Nest) → HasRoom count 8 n → LedFits count (begin n at x)
begin_fits count at x n r =
    either_fits count (is_white x) _ _ (λ e. in_lexeme_fits count 8 n between r (omega arith) tt)
    (λ e. either_fits count (x == 37) _ _ (λ e. in_lexeme_fits count 8 n (in_comment []) r (omega arith) (omega arith))
    (λ e. begin_single_fits count at x n (single x) r))

-- behind a token that fits
pub behind_fits : (count at x : ℕ) (taken : Taken) → TakenFits count taken → LedFits (count + 1) (begin_behind taken at x)
behind_fits count at x (Ok m) f = begin_fits (count + 1) at x m (room_anew count m f)
behind_fits count at x (Err fault) f = tt

-- ---- comments

comment_gap : (b : Bool) → (lexeme_load (cond b between (in_comment [])) ≤ 0) × LexemeFits (cond b between (in_comment []))
comment_gap true = (omega arith, tt)
comment_gap false = (omega arith, omega arith)

pub comment_fits : (count more at : ℕ) (n : Nest) (bytes : List ℕ) (s : Sequence) → HasRoom count more n → sequence bytes ≡ s
    → LedFits count (comment_led n at bytes s)
comment_fits count more at n bytes (whole c) r e =
    let gap = comment_gap (c == 10) in
    in_lexeme_fits count more n (cond (c == 10) between (in_comment [])) r (omega (arith, gap.0)) gap.1
comment_fits count more at n bytes part r e = in_lexeme_fits count more n (in_comment bytes) r (omega arith) (part_is_short bytes e)
comment_fits count more at n bytes wrong r e = tt
