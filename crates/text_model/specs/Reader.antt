-- The machine that reads bytes: what is begun behind some bytes of a script's next sentence, and what one more does. The
-- middle between the definition of scripts and the code.
use Rattle.std.specs.Prelude.{ℕ, ◌+◌, ◌*◌, ◌-◌, ℤ, pos, ◌+ℤ◌, ◌-ℤ◌, ◌*ℤ◌, Bool, true, false, cond, ◌&&◌, ◌||◌, ◌==◌, not, nat_lt, List, [], ◌∷◌, ◌++◌}
use Rattle.std.specs.Prelude.{length, Option, Some, None, Result, Ok, Err}
use Rattle.std.specs.Char.{is_ascii_digit, is_ascii_lowercase, is_ascii_hexdigit}
use Rattle.std.specs.Str.{all_scalars}
use Rattle.bstr.specs.Utf8.{decoded, lead_len}
use Rattle.dets_term.specs.TermValue.{TermValue}
use Rattle.text_model.specs.declared.mark.Mark.{Mark}
use Rattle.text_model.specs.declared.mark.Mark.TheVariants.{OpenTuple, OpenMap, CloseBrace, OpenList, CloseList, OpenBits, CloseBits, Bar, Comma}
use Rattle.text_model.specs.declared.mark.Mark.TheVariants.{Arrow, Colon, FullStop}
use Rattle.text_model.specs.declared.fault.TextWhy.{TextWhy}
use Rattle.text_model.specs.declared.fault.TextWhy.TheVariants.{BadToken, BadUtf8, Depth, IntegerRange, Unfinished}
use Rattle.text_model.specs.Token.{Token, mark, number, plain, quoted, string, a_number, a_plain, a_quoted, a_string, is_name_character, fits}
use Rattle.text_model.specs.Characters.{is_octal, digit_value, escape_of}
use Rattle.text_model.specs.Spelling.{is_white}
use Rattle.text_model.specs.Grammar.{strict}
use Rattle.text_model.specs.Nest.{Nest, fresh, Taken, Place, want, colon, stopped, take, refusal_of, may_hold, wants_segment}

-- a character in quotes that may go on
pub data Partial : Type 0 where
  -- none is begun
  nothing : Partial
  -- the first bytes of a character
  cut : List ℕ → Partial
  backslash : Partial
  -- octal digits by their value and their number, one or two
  octal : ℕ → ℕ → Partial
  -- behind `\x`
  hexadecimal : Partial
  -- behind its first digit
  half : ℕ → Partial
  -- behind `\x{` and digits, by their value and their number
  braced : ℕ → ℕ → Partial

-- what stands between two quotes
pub data Quotes : Type 0 where
  of_atom : Quotes
  of_string : Quotes

-- a token that may go on, with its offset, or what stands between two
pub data Lexeme : Type 0 where
  between : Lexeme
  -- a comment, with the first bytes of a character
  in_comment : List ℕ → Lexeme
  -- the first byte of a mark of two
  first_of : ℕ → Mark → Lexeme
  in_minus : ℕ → Lexeme
  -- a number, behind a minus sign or not
  in_number : ℕ → Bool → ℤ → Lexeme
  in_name : ℕ → List ℕ → Lexeme
  -- its whole characters, and what is read of the next one
  in_quotes : ℕ → Quotes → List ℕ → Partial → Lexeme

pub record State : Type 0 where
  pub nest : Nest
  pub lexeme : Lexeme

-- where the next sentence may begin
abbrev pub fresh_state : State
fresh_state = record { nest = fresh; lexeme = between }

-- what a byte leads to: a state, or the offset of a fault and why
abbrev pub Led : Type 0
Led = Result State (ℕ × TextWhy)

abbrev pub bad : ℕ → Led
bad at = Err (at, BadToken)

-- between two tokens of this nest, or its fault
abbrev pub led_to : Taken → Led
led_to (Ok n) = Ok (record { nest = n; lexeme = between })
led_to (Err why) = Err why

-- a lexeme that is begun or goes on
abbrev pub in_lexeme : Nest → Lexeme → Led
in_lexeme n lexeme = Ok (record { nest = n; lexeme = lexeme })

-- ---- the first byte of a token

abbrev pub if_not_refused : Option TextWhy → ℕ → Led → Led
if_not_refused None start next = next
if_not_refused (Some why) start next = Err (start, why)

-- the same where Depth comes with the next byte
abbrev pub if_not_stray : Option TextWhy → ℕ → Led → Led
if_not_stray (Some BadToken) start next = bad start
if_not_stray other start next = next

abbrev pub why_of : Taken → Option TextWhy
why_of (Ok n) = None
why_of (Err fault) = Some fault.1

-- the first byte of a mark of two may stand where the mark may
abbrev pub begin_mark : Nest → ℕ → Mark → Led
begin_mark n at m = if_not_stray (why_of (take strict n at (mark m))) at (in_lexeme n (first_of at m))

abbrev pub digit : Bool → ℤ → ℕ → ℤ
digit minus z x = cond minus (pos 10 *ℤ z -ℤ pos (x - 48)) (pos 10 *ℤ z +ℤ pos (x - 48))

abbrev pub begin_other : Nest → ℕ → ℕ → Led
begin_other n at x =
    cond (x == 45) (if_not_stray (refusal_of strict n a_number) at (in_lexeme n (in_minus at)))
    (cond (is_ascii_digit x) (if_not_refused (refusal_of strict n a_number) at (in_lexeme n (in_number at false (digit false (pos 0) x))))
    (cond (is_ascii_lowercase x) (if_not_refused (refusal_of strict n a_plain) at (in_lexeme n (in_name at (x ∷ []))))
    (cond (x == 39) (if_not_refused (refusal_of strict n a_quoted) at (in_lexeme n (in_quotes at of_atom [] nothing)))
    (cond (x == 34) (if_not_refused (refusal_of strict n a_string) at (in_lexeme n (in_quotes at of_string [] nothing)))
    (bad at)))))

-- the mark of one byte, or of which this is the first one
abbrev pub single : ℕ → Option Mark
single x =
    cond (x == 123) (Some OpenTuple) (cond (x == 125) (Some CloseBrace) (cond (x == 91) (Some OpenList) (cond (x == 93) (Some CloseList)
    (cond (x == 124) (Some Bar) (cond (x == 44) (Some Comma) (cond (x == 58) (Some Colon) (cond (x == 46) (Some FullStop) None)))))))

abbrev pub double : ℕ → Option Mark
double x =
    cond (x == 35) (Some OpenMap) (cond (x == 60) (Some OpenBits) (cond (x == 62) (Some CloseBits) (cond (x == 61) (Some Arrow) None)))

abbrev pub begin_double : Nest → ℕ → ℕ → Option Mark → Led
begin_double n at x (Some m) = begin_mark n at m
begin_double n at x None = begin_other n at x

abbrev pub begin_single : Nest → ℕ → ℕ → Option Mark → Led
begin_single n at x (Some m) = led_to (take strict n at (mark m))
begin_single n at x None = begin_double n at x (double x)

-- a byte between two tokens
abbrev pub begin : Nest → ℕ → ℕ → Led
begin n at x =
    cond (is_white x) (in_lexeme n between) (cond (x == 37) (in_lexeme n (in_comment [])) (begin_single n at x (single x)))

-- a byte behind a token that it does not go on with
abbrev pub begin_behind : Taken → ℕ → ℕ → Led
begin_behind (Ok n) at x = begin n at x
begin_behind (Err why) at x = Err why

-- ---- characters

pub data Sequence : Type 0 where
  -- the bytes of a character
  whole : ℕ → Sequence
  -- the first bytes of one
  part : Sequence
  -- no character begins so
  wrong : Sequence

abbrev pub sequence_by : List ℕ → ℕ → Option ℕ → Sequence
sequence_by bytes size (Some c) = whole c
sequence_by [] size None = wrong
sequence_by (x ∷ xs) size None = cond ((size == length (x ∷ xs)) && nat_lt 1 (lead_len x)) part wrong

-- what some bytes are, of which all but the last are a part of a character
abbrev pub sequence : List ℕ → Sequence
sequence bytes = sequence_by bytes (decoded bytes).size (decoded bytes).char

abbrev pub may_have : Nest → Quotes → List ℕ → Option TextWhy
may_have n of_atom cs = cond (nat_lt (length cs) 255) None (Some BadToken)
may_have n of_string cs = cond (may_hold strict n) None (Some Depth)

-- behind one more character
abbrev pub pushed : Nest → ℕ → Quotes → List ℕ → ℕ → Option TextWhy → Led
pushed n start q cs c None = in_lexeme n (in_quotes start q (cs ++ c ∷ []) nothing)
pushed n start q cs c (Some why) = Err (start, why)

abbrev pub push : Nest → ℕ → Quotes → List ℕ → ℕ → Led
push n start q cs c = pushed n start q cs c (may_have n q cs)

abbrev pub in_character : Nest → ℕ → Quotes → List ℕ → Partial → Led
in_character n start q cs p = in_lexeme n (in_quotes start q cs p)

-- behind a byte of a character whose first bytes these are, at an offset
abbrev pub sequence_led : Nest → ℕ → Quotes → List ℕ → List ℕ → ℕ → Sequence → Led
sequence_led n start q cs bytes at (whole c) = push n start q cs c
sequence_led n start q cs bytes at part = in_character n start q cs (cut bytes)
sequence_led n start q cs bytes at wrong = Err (at, BadUtf8)

abbrev pub token_of : Quotes → List ℕ → Token
token_of of_atom cs = quoted cs
token_of of_string cs = string cs

abbrev pub quote_of : Quotes → ℕ
quote_of of_atom = 39
quote_of of_string = 34

-- an escape may begin where one more character may be; in a string this is judged when there is a character
abbrev pub may_escape : Quotes → List ℕ → Bool
may_escape of_atom cs = nat_lt (length cs) 255
may_escape of_string cs = true

-- a byte at an offset that begins a character, or closes
abbrev pub begin_character : Nest → ℕ → ℕ → Quotes → List ℕ → ℕ → Led
begin_character n start at q cs x =
    cond (x == quote_of q) (led_to (take strict n start (token_of q cs)))
    (cond (x == 92) (cond (may_escape q cs) (in_character n start q cs backslash) (bad start))
    (sequence_led n start q cs (x ∷ []) at (sequence (x ∷ []))))

-- the first digit of an octal escape is a character already
abbrev pub begin_octal : Nest → ℕ → Quotes → List ℕ → ℕ → Option TextWhy → Led
begin_octal n start q cs x None = in_character n start q cs (octal (digit_value x) 1)
begin_octal n start q cs x (Some why) = Err (start, why)

abbrev pub escaped : Nest → ℕ → Quotes → List ℕ → Option ℕ → Led
escaped n start q cs (Some c) = push n start q cs c
escaped n start q cs None = bad start

-- a byte behind a backslash
abbrev pub begin_escape : Nest → ℕ → Quotes → List ℕ → ℕ → Led
begin_escape n start q cs x =
    cond (is_octal x) (begin_octal n start q cs x (may_have n q cs))
    (cond (x == 120) (in_character n start q cs hexadecimal) (escaped n start q cs (escape_of x)))

-- a byte behind octal digits
abbrev pub octal_led : Nest → ℕ → ℕ → Quotes → List ℕ → ℕ → ℕ → ℕ → Led
octal_led n start at q cs v count x =
    cond (is_octal x) (cond (count == 1) (in_character n start q cs (octal (8 * v + digit_value x) 2)) (push n start q cs (8 * v + digit_value x)))
    (begin_character n start at q (cs ++ v ∷ []) x)

-- a byte behind `\x{` and digits
abbrev pub braced_led : Nest → ℕ → Quotes → List ℕ → ℕ → ℕ → ℕ → Led
braced_led n start q cs v count x =
    cond (x == 125) (cond (nat_lt 0 count && all_scalars (v ∷ [])) (push n start q cs v) (bad start))
    (cond (is_ascii_hexdigit x && (nat_lt count 5 || ((count == 5) && all_scalars ((16 * v + digit_value x) ∷ []))))
    (in_character n start q cs (braced (16 * v + digit_value x) (count + 1))) (bad start))

abbrev pub quotes_led : Nest → ℕ → ℕ → Quotes → List ℕ → Partial → ℕ → Led
quotes_led n start at q cs nothing x = begin_character n start at q cs x
quotes_led n start at q cs (cut bytes) x = sequence_led n start q cs (bytes ++ x ∷ []) (at - length bytes) (sequence (bytes ++ x ∷ []))
quotes_led n start at q cs backslash x = begin_escape n start q cs x
quotes_led n start at q cs (octal v count) x = octal_led n start at q cs v count x
quotes_led n start at q cs hexadecimal x =
    cond (is_ascii_hexdigit x) (in_character n start q cs (half (digit_value x))) (cond (x == 123) (in_character n start q cs (braced 0 0)) (bad start))
quotes_led n start at q cs (half v) x = cond (is_ascii_hexdigit x) (push n start q cs (16 * v + digit_value x)) (bad start)
quotes_led n start at q cs (braced v count) x = braced_led n start q cs v count x

-- ---- a byte

abbrev pub second_byte : Mark → ℕ
second_byte OpenMap = 123
second_byte OpenBits = 60
second_byte other = 62

abbrev pub comment_led : Nest → ℕ → List ℕ → Sequence → Led
comment_led n at bytes (whole c) = in_lexeme n (cond (c == 10) between (in_comment []))
comment_led n at bytes part = in_lexeme n (in_comment bytes)
comment_led n at bytes wrong = Err (at, BadUtf8)

-- one more byte, at an offset
abbrev pub led : Nest → ℕ → ℕ → Lexeme → Led
led n at x between = begin n at x
led n at x (in_comment bytes) = comment_led n (at - length bytes) (bytes ++ x ∷ []) (sequence (bytes ++ x ∷ []))
led n at x (first_of start m) = cond (x == second_byte m) (led_to (take strict n start (mark m))) (bad start)
led n at x (in_minus start) =
    cond (is_ascii_digit x) (if_not_refused (refusal_of strict n a_number) start (in_lexeme n (in_number start true (digit true (pos 0) x)))) (bad start)
led n at x (in_number start minus z) =
    cond (is_ascii_digit x) (cond (fits (digit minus z x)) (in_lexeme n (in_number start minus (digit minus z x))) (Err (start, IntegerRange)))
    (begin_behind (take strict n start (number z)) at x)
led n at x (in_name start cs) =
    cond (is_name_character x) (cond (nat_lt (length cs) 255) (in_lexeme n (in_name start (cs ++ x ∷ []))) (bad start))
    (begin_behind (take strict n start (plain cs)) at x)
led n at x (in_quotes start q cs p) = quotes_led n start at q cs p x

abbrev pub step : State → ℕ → ℕ → Led
step s at x = led s.nest at x s.lexeme

-- ---- the end of the input

abbrev pub is_zero : ℤ → Bool
is_zero (pos n) = n == 0
is_zero other = false

-- where a number touches the end and its place refuses it: a longer one could stand there
abbrev pub longer_at : Place → Bool → ℤ → Bool
longer_at (colon start v) minus z = not minus && is_zero z
longer_at other minus z = fits (digit minus z 48)

abbrev pub number_may_grow : Nest → Bool → ℤ → Bool
number_may_grow n minus z = cond (wants_segment n) false (longer_at n.place minus z)

-- the fault of a token that touches the end, unless a longer one could stand there
abbrev pub at_last : Bool → Taken → Option (ℕ × TextWhy)
at_last grows (Ok n) = None
at_last true (Err fault) = None
at_last false (Err fault) = Some fault

-- the fault of the lexeme that the input ends in, but for Unfinished
abbrev pub last_fault : Nest → ℕ → Lexeme → Option (ℕ × TextWhy)
last_fault n end (in_number start minus z) = at_last (number_may_grow n minus z) (take strict n start (number z))
last_fault n end (in_name start cs) = at_last (nat_lt (length cs) 255) (take strict n start (plain cs))
last_fault n end (in_comment (x ∷ xs)) = Some (end - length (x ∷ xs), BadUtf8)
last_fault n end other = None

abbrev pub is_want : Place → Bool
is_want want = true
is_want other = false

-- no token is begun yet
abbrev pub is_gap : Lexeme → Bool
is_gap between = true
is_gap (in_comment bytes) = true
is_gap other = false

abbrev pub is_blank : State → Bool
is_blank s = ((length s.nest.begun == 0) && is_want s.nest.place) && is_gap s.lexeme

-- What an input comes to: a term, with the number of its bytes that were read and those that follow; nothing but blanks; or a
-- fault.
pub data Outcome : Type 0 where
  term_there : TermValue → ℕ → List ℕ → Outcome
  none_there : Outcome
  faulty : ℕ → TextWhy → Outcome

abbrev pub or_unfinished : State → ℕ → Option (ℕ × TextWhy) → Outcome
or_unfinished s end (Some fault) = faulty fault.0 fault.1
or_unfinished s end None = cond (is_blank s) none_there (faulty end Unfinished)

-- where the bytes end and no full stop of a term was read
abbrev pub at_end : State → ℕ → Outcome
at_end s end = or_unfinished s end (last_fault s.nest end s.lexeme)

-- behind a term's full stop, which is the last byte that was read
abbrev pub behind_stop : TermValue → ℕ → List ℕ → Outcome
behind_stop t at [] = term_there t at []
behind_stop t at (x ∷ rest) = cond (is_white x || x == 37) (term_there t at (x ∷ rest)) (faulty (at - 1) BadToken)

-- what follows where no full stop of a term was read yet
abbrev pub unless_stopped : ℕ → List ℕ → Outcome → Place → Outcome
unless_stopped at bytes next (stopped t) = behind_stop t at bytes
unless_stopped at bytes next other = next

abbrev pub outcome_by : Led → (State → Outcome) → Outcome
outcome_by (Ok s) next = next s
outcome_by (Err fault) next = faulty fault.0 fault.1

-- what a state comes to with the bytes that follow at an offset, which are all, however long the text is
abbrev pub outcome : State → ℕ → List ℕ → Outcome
outcome s at [] = unless_stopped at [] (at_end s at) s.nest.place
outcome s at (x ∷ rest) = unless_stopped at (x ∷ rest) (outcome_by (step s at x) (λ next. outcome next (at + 1) rest)) s.nest.place
