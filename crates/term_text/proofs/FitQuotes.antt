-- A byte in quotes keeps what is open within the limits of terms.
use Rattle.std.proofs.Common.{◌≡◌, ℕ, ◌+◌, ◌-◌, ◌*◌, ◌^◌, ◌<◌, ◌≤◌, Bool, true, false, cond, ◌&&◌, nat_lt, List, [], ◌∷◌, ◌++◌, length, length-append}
use Rattle.std.proofs.Common.{Option, Some, None, refl, subst, arith}
use Rattle.std.specs.Prelude.{◌==◌, ◌||◌}
use Rattle.std.specs.Char.{is_ascii_hexdigit}
use Rattle.std.specs.Str.{all_scalars}
use Rattle.std.proofs.lemmas.Bool.{eqb-true, ltb-true}
use Rattle.std.proofs.lemmas.Bool.Decides.{nat_tests}
use Rattle.text_model.specs.declared.fault.TextWhy.{TextWhy}
use Rattle.text_model.specs.declared.fault.TextWhy.TheVariants.{BadToken}
use Rattle.text_model.specs.Characters.{is_octal, digit_value, escape_of}
use Rattle.text_model.specs.Grammar.{strict}
use Rattle.text_model.specs.Nest.{Nest, take}
use Rattle.text_model.specs.Reader.{Partial, nothing, cut, backslash, octal, hexadecimal, half, braced, Quotes, of_atom, of_string, in_quotes}
use Rattle.text_model.specs.Reader.{Sequence, whole, part, wrong, sequence, may_have, pushed, push, in_character, sequence_led, token_of, quote_of}
use Rattle.text_model.specs.Reader.{may_escape, begin_character, begin_octal, escaped, begin_escape, octal_led, braced_led, quotes_led}
use Rattle.term_text.specs.StateFits.{pending, PartialFits, LexemeFits}
use Rattle.text_nest.proofs.FitNests.{HasRoom}
use Rattle.text_nest.proofs.FitTokens.{token_load, token_fits}
use Rattle.term_text.proofs.FitSequences.{part_is_short}
use Rattle.term_text.proofs.FitLexemes.{LedFits, either_fits, room_less, in_lexeme_fits, led_to_fits}

-- so many characters may stand in these quotes
abbrev pub AreFew : Quotes → ℕ → Type 0
AreFew of_atom count = count ≤ 255
AreFew of_string count = Unit {0}

lexeme_fits : (start : ℕ) (q : Quotes) (cs : List ℕ) (p : Partial) → AreFew q (length cs + pending p) → PartialFits p → LexemeFits (in_quotes start q cs p)
lexeme_fits start of_atom cs p few fit = (few, fit)
lexeme_fits start of_string cs p few fit = fit

few_same : (q : Quotes) (count less : ℕ) → AreFew q count → less ≤ count → AreFew q less
few_same of_atom count less few h = omega arith
few_same of_string count less few h = tt

-- where one more may be
one_more : (n : Nest) (q : Quotes) (cs : List ℕ) → may_have n q cs ≡ None → AreFew q (length cs + 1)
one_more n of_atom cs e = let low = below (nat_lt (length cs) 255) e in let few = ltb-true (length cs) 255 low in omega arith
  where
    below : (b : Bool) → cond {A = Option TextWhy} b None (Some BadToken) ≡ None → b ≡ true
    below true e = refl
    below false e = cc
one_more n of_string cs e = tt

character_fits : (count start : ℕ) (n : Nest) (q : Quotes) (cs : List ℕ) (p : Partial) → HasRoom count (8 * (length cs + 1)) n
    → pending p ≤ 1 → AreFew q (length cs + pending p) → PartialFits p → LedFits count (in_character n start q cs p)
character_fits count start n q cs p r one few fit =
    in_lexeme_fits count (8 * (length cs + 1)) n (in_quotes start q cs p) r (omega arith) (lexeme_fits start q cs p few fit)

-- ---- one more character

pushed_fits : (count start c : ℕ) (n : Nest) (q : Quotes) (cs : List ℕ) (o : Option TextWhy) → HasRoom count (8 * (length cs + 1)) n
    → (o ≡ None → AreFew q (length cs + 1)) → LedFits count (pushed n start q cs c o)
pushed_fits count start c n q cs None r few =
    let size = length-append cs (c ∷ []) in
    in_lexeme_fits count (8 * (length cs + 1)) n (in_quotes start q (cs ++ c ∷ []) nothing) r (omega arith)
    (lexeme_fits start q (cs ++ c ∷ []) nothing (few_same q (length cs + 1) _ (few refl) (omega arith)) tt)
pushed_fits count start c n q cs (Some why) r few = tt

push_fits : (count start c : ℕ) (n : Nest) (q : Quotes) (cs : List ℕ) → HasRoom count (8 * (length cs + 1)) n → LedFits count (push n start q cs c)
push_fits count start c n q cs r = pushed_fits count start c n q cs (may_have n q cs) r (one_more n q cs)

sequence_fits : (count start at : ℕ) (n : Nest) (q : Quotes) (cs bytes : List ℕ) (s : Sequence) → HasRoom count (8 * (length cs + 1)) n
    → AreFew q (length cs) → sequence bytes ≡ s → LedFits count (sequence_led n start q cs bytes at s)
sequence_fits count start at n q cs bytes (whole c) r few e = push_fits count start c n q cs r
sequence_fits count start at n q cs bytes part r few e =
    character_fits count start n q cs (cut bytes) r (omega arith) (few_same q (length cs) _ few (omega arith)) (part_is_short bytes e)
sequence_fits count start at n q cs bytes wrong r few e = tt

token_few : (q : Quotes) (cs : List ℕ) → token_load (token_of q cs) ≤ 8 * (length cs + 1)
token_few of_atom cs = omega arith
token_few of_string cs = omega arith

begin_character_fits : (count start at x : ℕ) (n : Nest) (q : Quotes) (cs : List ℕ) → HasRoom count (8 * (length cs + 1)) n → AreFew q (length cs)
    → LedFits count (begin_character n start at q cs x)
begin_character_fits count start at x n q cs r few =
    either_fits count (x == quote_of q) _ _
    (λ e. led_to_fits count (take strict n start (token_of q cs))
    (token_fits count start n (token_of q cs) (room_less count (8 * (length cs + 1)) _ n r (token_few q cs))))
    (λ e. either_fits count (x == 92) _ _
    (λ e. either_fits count (may_escape q cs) _ _
    (λ e. character_fits count start n q cs backslash r (omega arith) (few_same q (length cs) _ few (omega arith)) tt) (λ e. tt))
    (λ e. sequence_fits count start at n q cs (x ∷ []) (sequence (x ∷ [])) r few refl))

-- ---- escapes

octal_digit : (x : ℕ) → is_octal x ≡ true → digit_value x < 8
octal_digit x e = grind (arith, nat_tests)

hexadecimal_digit : (x : ℕ) → is_ascii_hexdigit x ≡ true → digit_value x < 16
hexadecimal_digit x e = grind (arith, nat_tests)

begin_octal_fits : (count start x : ℕ) (n : Nest) (q : Quotes) (cs : List ℕ) (o : Option TextWhy) → HasRoom count (8 * (length cs + 1)) n
    → (o ≡ None → AreFew q (length cs + 1)) → digit_value x < 8 → LedFits count (begin_octal n start q cs x o)
begin_octal_fits count start x n q cs None r few low =
    character_fits count start n q cs (octal (digit_value x) 1) r (omega arith) (few refl) (omega arith, omega arith, omega arith)
begin_octal_fits count start x n q cs (Some why) r few low = tt

escaped_fits : (count start : ℕ) (n : Nest) (q : Quotes) (cs : List ℕ) (o : Option ℕ) → HasRoom count (8 * (length cs + 1)) n
    → LedFits count (escaped n start q cs o)
escaped_fits count start n q cs (Some c) r = push_fits count start c n q cs r
escaped_fits count start n q cs None r = tt

begin_escape_fits : (count start x : ℕ) (n : Nest) (q : Quotes) (cs : List ℕ) → HasRoom count (8 * (length cs + 1)) n → AreFew q (length cs)
    → LedFits count (begin_escape n start q cs x)
begin_escape_fits count start x n q cs r few =
    either_fits count (is_octal x) _ _
    (λ e. begin_octal_fits count start x n q cs (may_have n q cs) r (one_more n q cs) (octal_digit x e))
    (λ e. either_fits count (x == 120) _ _
    (λ e. character_fits count start n q cs hexadecimal r (omega arith) (few_same q (length cs) _ few (omega arith)) tt)
    (λ e. escaped_fits count start n q cs (escape_of x) r))

-- two digits
two_digits : (v count d : ℕ) → v < 8 ^ count → count ≡ 1 → d < 8 → 8 * v + d < 8 ^ 2
two_digits v count d held one low = let small : v < 8 ^ 1 = subst (λ k. v < 8 ^ k) one held in omega arith

octal_fits : (count start at v digits x : ℕ) (n : Nest) (q : Quotes) (cs : List ℕ) → HasRoom count (8 * (length cs + 1) + 8) n
    → AreFew q (length cs + 1) → v < 8 ^ digits → LedFits count (octal_led n start at q cs v digits x)
octal_fits count start at v digits x n q cs r few held =
    let less = room_less count (8 * (length cs + 1) + 8) (8 * (length cs + 1)) n r (omega arith) in
    let size = length-append cs (v ∷ []) in
    either_fits count (is_octal x) _ _
    (λ e. either_fits count (digits == 1) _ _
    (λ one. character_fits count start n q cs (octal (8 * v + digit_value x) 2) less (omega arith) few
    (omega arith, omega arith, two_digits v digits (digit_value x) held (eqb-true digits 1 one) (octal_digit x e)))
    (λ one. push_fits count start (8 * v + digit_value x) n q cs less))
    (λ e. begin_character_fits count start at x n q (cs ++ v ∷ []) (room_less count (8 * (length cs + 1) + 8) _ n r (omega arith))
    (few_same q (length cs + 1) _ few (omega arith)))

braced_fits : (count start v digits x : ℕ) (n : Nest) (q : Quotes) (cs : List ℕ) → HasRoom count (8 * (length cs + 1)) n → AreFew q (length cs)
    → LedFits count (braced_led n start q cs v digits x)
braced_fits count start v digits x n q cs r few =
    either_fits count (x == 125) _ _
    (λ e. either_fits count (nat_lt 0 digits && all_scalars (v ∷ [])) _ _ (λ e. push_fits count start v n q cs r) (λ e. tt))
    (λ e. either_fits count (is_ascii_hexdigit x && (nat_lt digits 5 || ((digits == 5) && all_scalars ((16 * v + digit_value x) ∷ [])))) _ _
    (λ e. character_fits count start n q cs (braced (16 * v + digit_value x) (digits + 1)) r (omega arith) (few_same q (length cs) _ few (omega arith)) tt)
    (λ e. tt))

-- ---- any byte

quotes_by : (count start at x : ℕ) (n : Nest) (q : Quotes) (cs : List ℕ) (p : Partial) → HasRoom count (8 * (length cs + pending p) + 8) n
    → AreFew q (length cs + pending p) → PartialFits p → LedFits count (quotes_led n start at q cs p x)
quotes_by count start at x n q cs nothing r few fit =
    begin_character_fits count start at x n q cs (room_less count _ _ n r (omega arith)) (few_same q _ _ few (omega arith))
quotes_by count start at x n q cs (cut bytes) r few fit =
    sequence_fits count start (at - length bytes) n q cs (bytes ++ x ∷ []) (sequence (bytes ++ x ∷ [])) (room_less count _ _ n r (omega arith))
    (few_same q _ _ few (omega arith)) refl
quotes_by count start at x n q cs backslash r few fit =
    begin_escape_fits count start x n q cs (room_less count _ _ n r (omega arith)) (few_same q _ _ few (omega arith))
quotes_by count start at x n q cs (octal v digits) r few fit = octal_fits count start at v digits x n q cs r few fit.2
quotes_by count start at x n q cs hexadecimal r few fit =
    let room = room_less count _ (8 * (length cs + 1)) n r (omega arith) in
    either_fits count (is_ascii_hexdigit x) _ _
    (λ e. character_fits count start n q cs (half (digit_value x)) room (omega arith) few (hexadecimal_digit x e))
    (λ e. either_fits count (x == 123) _ _ (λ e. character_fits count start n q cs (braced 0 0) room (omega arith) few tt) (λ e. tt))
quotes_by count start at x n q cs (half v) r few fit =
    either_fits count (is_ascii_hexdigit x) _ _ (λ e. push_fits count start (16 * v + digit_value x) n q cs (room_less count _ _ n r (omega arith))) (λ e. tt)
quotes_by count start at x n q cs (braced v digits) r few fit =
    braced_fits count start v digits x n q cs (room_less count _ _ n r (omega arith)) (few_same q _ _ few (omega arith))

pub quotes_fit : (count start at x : ℕ) (n : Nest) (q : Quotes) (cs : List ℕ) (p : Partial) → HasRoom count (8 * (length cs + pending p) + 8) n
    → LexemeFits (in_quotes start q cs p) → LedFits count (quotes_led n start at q cs p x)
quotes_fit count start at x n of_atom cs p r fit = quotes_by count start at x n of_atom cs p r fit.0 fit.1
quotes_fit count start at x n of_string cs p r fit = quotes_by count start at x n of_string cs p r tt fit
