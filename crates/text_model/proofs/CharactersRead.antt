-- Whole characters in quotes are read, behind the quote that opens and up to the one that closes.
use Rattle.std.proofs.Common.{◌≡◌, ◌≢◌, ℕ, ◌+◌, ◌-◌, ◌<◌, inl, inr, Bool, true, false, cond, ◌==◌, nat_lt, List, [], ◌∷◌, ◌++◌, length, length-append}
use Rattle.std.proofs.Common.{Some, None, eqb-true, lt-ltb, refl, ap, ◌∙◌, sym, subst, append_assoc, append-nil, arith}
use Rattle.std.specs.Char.{IsScalar, encode_utf8}
use Rattle.text_model.specs.declared.fault.TextWhy.TheVariants.{BadToken, Depth}
use Rattle.text_model.specs.Characters.{Escapes, IsItself, IsCharacter, AreCharacters}
use Rattle.text_model.specs.Grammar.{strict}
use Rattle.text_model.specs.Nest.{Nest, take, refusal_of}
use Rattle.text_model.specs.Reader.{nothing, cut, backslash, Quotes, of_atom, of_string, between, in_quotes, if_not_refused, Sequence, whole, part}
use Rattle.text_model.specs.Reader.{sequence, may_have, in_lexeme, in_character, begin_character, sequence_led, token_of, quote_of, may_escape}
use Rattle.text_model.specs.Reader.{led_to, bad, begin}
use Rattle.text_model.proofs.Comes.{IsGoing, sort_in, Holds}
use Rattle.text_model.proofs.ComesQuotes.{some_test, encode_quote, encode_escape, quote_scalar}
use Rattle.text_model.proofs.ComesLengths.{characters_behind}
use Rattle.text_model.proofs.Sequences.{sequence_of_character, sequence_of_front, sequence_of_longer, encode_some}
use Rattle.text_model.proofs.QuotesSteps.{between_quotes, Pushes, pushes_last, pushes_more, pushes_reads}
use Rattle.text_model.proofs.EscapesRead.{letter_pushes, octal_reads, pair_pushes, braced_pushes}
use Rattle.text_model.proofs.RunSteps.{Reads, reads_both, reads_more, reads_none, state_in}

-- ---- a character that stands for itself

-- its bytes behind the first one
itself_more : (n : Nest) (start : ℕ) (q : Quotes) (cs : List ℕ) (c at : ℕ) (front : List ℕ) (y : ℕ) (more rest : List ℕ) → IsGoing n → IsScalar c
    → encode_utf8 c ≡ front ++ y ∷ more → Pushes n start q cs c (cut front) at (y ∷ (more ++ rest)) rest
itself_more n start q cs c at front y [] rest going scalar e =
    let is : sequence (front ++ y ∷ []) ≡ whole c = ap sequence (sym e) ∙ sequence_of_character c scalar in
    pushes_last n start q cs c (cut front) at y rest going (ap (sequence_led n start q cs (front ++ y ∷ []) (at - length front)) is)
itself_more n start q cs c at front y (z ∷ more) rest going scalar e =
    let apart : encode_utf8 c ≡ (front ++ y ∷ []) ++ z ∷ more = e ∙ sym (append_assoc front (y ∷ []) (z ∷ more)) in
    let is : sequence (front ++ y ∷ []) ≡ part =
    sequence_of_front c (front ++ y ∷ []) (z ∷ more) scalar apart (omega (arith, length-append front (y ∷ []))) (omega arith) in
    pushes_more n start q cs c (cut front) (cut (front ++ y ∷ [])) at y (z ∷ (more ++ rest)) rest going
    (ap (sequence_led n start q cs (front ++ y ∷ []) (at - length front)) is)
    (itself_more n start q cs c (at + 1) (front ++ y ∷ []) z more rest going scalar apart)

-- the first byte is that of no other character
other_first : (x k c : ℕ) (more : List ℕ) (b : Bool) → (x == k) ≡ b → encode_utf8 c ≡ x ∷ more → encode_utf8 k ≡ k ∷ [] → IsScalar k → IsScalar c
    → c ≢ k → (x == k) ≡ false
other_first x k c more true t e f one scalar other =
    let bytes : encode_utf8 c ≡ encode_utf8 k ++ more = e ∙ ap (λ y. y ∷ more) (eqb-true x k t) ∙ ap (λ l. l ++ more) (sym f) in
    let same : whole c ≡ whole k = sym (sequence_of_character c scalar) ∙ ap sequence bytes ∙ sequence_of_longer k more one in
    let equal : c ≡ k = cc in absurd (other equal)
other_first x k c more false t e f one scalar other = t

first_led : (n : Nest) (start at : ℕ) (q : Quotes) (cs : List ℕ) (c x : ℕ) (more : List ℕ) (s : Sequence) → IsScalar c → c ≢ quote_of q → c ≢ 92
    → encode_utf8 c ≡ x ∷ more → sequence (x ∷ []) ≡ s → begin_character n start at q cs x ≡ sequence_led n start q cs (x ∷ []) at s
first_led n start at q cs c x more s scalar no_quote no_escape e is =
    let a = other_first x (quote_of q) c more (x == quote_of q) refl e (encode_quote q) (quote_scalar q) scalar no_quote in
    let b = other_first x 92 c more (x == 92) refl e encode_escape refl scalar no_escape in
    rw (a, b) (ap (sequence_led n start q cs (x ∷ []) at) is)

itself_by : (n : Nest) (start : ℕ) (q : Quotes) (cs : List ℕ) (c at : ℕ) (bytes rest : List ℕ) → IsGoing n → IsScalar c → c ≢ quote_of q → c ≢ 92
    → encode_utf8 c ≡ bytes → Pushes n start q cs c nothing at (bytes ++ rest) rest
itself_by n start q cs c at [] rest going scalar no_quote no_escape e = absurd (omega (arith, encode_some c, ap length e))
itself_by n start q cs c at (x ∷ []) rest going scalar no_quote no_escape e =
    let is : sequence (x ∷ []) ≡ whole c = ap sequence (sym e) ∙ sequence_of_character c scalar in
    pushes_last n start q cs c nothing at x rest going (first_led n start at q cs c x [] (whole c) scalar no_quote no_escape e is)
itself_by n start q cs c at (x ∷ y ∷ more) rest going scalar no_quote no_escape e =
    let is : sequence (x ∷ []) ≡ part = sequence_of_front c (x ∷ []) (y ∷ more) scalar e (omega arith) (omega arith) in
    pushes_more n start q cs c nothing (cut (x ∷ [])) at x (y ∷ (more ++ rest)) rest going
    (first_led n start at q cs c x (y ∷ more) part scalar no_quote no_escape e is)
    (itself_more n start q cs c (at + 1) (x ∷ []) y more rest going scalar e)

pub itself_pushes : (n : Nest) (start : ℕ) (q : Quotes) (cs : List ℕ) (c at : ℕ) (bytes rest : List ℕ) → IsGoing n → IsItself (quote_of q) c bytes rest
    → Pushes n start q cs c nothing at bytes rest
itself_pushes n start q cs c at bytes rest going i =
    subst (λ l. Pushes n start q cs c nothing at l rest) (sym i.whole)
    (itself_by n start q cs c at (encode_utf8 c) rest going i.scalar i.no_quote i.no_escape refl)

-- ---- a character

pub escape_goes : (n : Nest) (start at : ℕ) (q : Quotes) (cs : List ℕ) → may_escape q cs ≡ true
    → begin_character n start at q cs 92 ≡ in_character n start q cs backslash
escape_goes n start at of_atom cs e = ap (λ b. cond b (in_character n start of_atom cs backslash) (bad start)) e
escape_goes n start at of_string cs e = refl

-- where none may begin
pub no_escape_begins : (n : Nest) (start at : ℕ) (q : Quotes) (cs : List ℕ) → may_escape q cs ≡ false → begin_character n start at q cs 92 ≡ bad start
no_escape_begins n start at of_atom cs e = ap (λ b. cond b (in_character n start of_atom cs backslash) (bad start)) e
no_escape_begins n start at of_string cs e = cc

may_escape_there : (n : Nest) (q : Quotes) (cs : List ℕ) → may_have n q cs ≡ None → may_escape q cs ≡ true
may_escape_there n of_atom cs e = some_test (nat_lt (length cs) 255) BadToken e
may_escape_there n of_string cs e = refl

-- what follows a backslash
escape_reads : (n : Nest) (start : ℕ) (q : Quotes) (cs : List ℕ) (c at : ℕ) (escape rest : List ℕ) → IsGoing n → may_have n q cs ≡ None
    → 0 < length rest → Escapes c escape rest → Reads (between_quotes n start q cs backslash) at escape (between_quotes n start q (cs ++ c ∷ []) nothing) rest
escape_reads n start q cs c at escape rest going may more (inl l) =
    pushes_reads n start q cs c backslash at escape rest (letter_pushes n start q cs c at escape rest going l) may
escape_reads n start q cs c at escape rest going may more (inr (inl o)) = octal_reads n start q cs c at escape rest going may more o
escape_reads n start q cs c at escape rest going may more (inr (inr (inl p))) =
    pushes_reads n start q cs c backslash at escape rest (pair_pushes n start q cs c at escape rest going p) may
escape_reads n start q cs c at escape rest going may more (inr (inr (inr b))) =
    pushes_reads n start q cs c backslash at escape rest (braced_pushes n start q cs c at escape rest going b) may

character_reads : (n : Nest) (start : ℕ) (q : Quotes) (cs : List ℕ) (c at : ℕ) (bytes rest : List ℕ) → IsGoing n → may_have n q cs ≡ None
    → 0 < length rest → IsCharacter (quote_of q) c bytes rest
    → Reads (between_quotes n start q cs nothing) at bytes (between_quotes n start q (cs ++ c ∷ []) nothing) rest
character_reads n start q cs c at bytes rest going may more (inl i) =
    pushes_reads n start q cs c nothing at bytes rest (itself_pushes n start q cs c at bytes rest going i) may
character_reads n start q cs c at bytes rest going may more (inr (escape, e, is)) =
    subst (λ l. Reads (between_quotes n start q cs nothing) at l (between_quotes n start q (cs ++ c ∷ []) nothing) rest) (sym e)
    (reads_more n (in_quotes start q cs nothing) (in_quotes start q cs backslash) (between_quotes n start q (cs ++ c ∷ []) nothing) at 92 escape rest going
    (escape_goes n start at q cs (may_escape_there n q cs may)) (escape_reads n start q cs c (at + 1) escape rest going may more is))

-- ---- some characters

may_have_more : (n : Nest) (q : Quotes) (cs : List ℕ) (d : ℕ) (ds : List ℕ) → Holds n q (cs ++ d ∷ ds) → may_have n q cs ≡ None
may_have_more n of_atom cs d ds hold =
    let fewer : nat_lt (length cs) 255 ≡ true = lt-ltb (length cs) 255 (omega (arith, hold, length-append cs (d ∷ ds))) in
    ap (λ b. cond b None (Some BadToken)) fewer
may_have_more n of_string cs d ds (inl e) = absurd (omega (arith, ap length e, length-append cs (d ∷ ds)))
may_have_more n of_string cs d ds (inr e) = ap (λ b. cond b None (Some Depth)) e

characters_reads : (n : Nest) (start : ℕ) (q : Quotes) (cs : List ℕ) (at : ℕ) (ds inside rest : List ℕ) → IsGoing n → Holds n q (cs ++ ds)
    → 0 < length rest → AreCharacters (quote_of q) ds inside rest
    → Reads (between_quotes n start q cs nothing) at inside (between_quotes n start q (cs ++ ds) nothing) rest
characters_reads n start q cs at [] inside rest going hold more e =
    subst (λ l. Reads (between_quotes n start q cs nothing) at inside (between_quotes n start q l nothing) rest) (sym (append-nil cs))
    (subst (λ l. Reads (between_quotes n start q cs nothing) at inside (between_quotes n start q cs nothing) l) e
    (reads_none (between_quotes n start q cs nothing) at inside))
characters_reads n start q cs at (d ∷ ds) inside rest going hold more (behind, is, others) =
    let some : 0 < length behind = omega (arith, characters_behind (quote_of q) ds behind rest others) in
    let first = character_reads n start q cs d at inside behind going (may_have_more n q cs d ds hold) some is in
    let same : (cs ++ d ∷ []) ++ ds ≡ cs ++ d ∷ ds = append_assoc cs (d ∷ []) ds in
    subst (λ l. Reads (between_quotes n start q cs nothing) at inside (between_quotes n start q l nothing) rest) same
    (reads_both (between_quotes n start q cs nothing) (between_quotes n start q (cs ++ d ∷ []) nothing)
    (between_quotes n start q ((cs ++ d ∷ []) ++ ds) nothing) at inside behind rest first
    (characters_reads n start q (cs ++ d ∷ []) first.to ds behind rest going (subst (Holds n q) (sym same) hold) more others))

-- ---- the quotes

pub quote_opens : (n : Nest) (at : ℕ) (q : Quotes) → refusal_of strict n (sort_in q) ≡ None → begin n at (quote_of q) ≡ in_lexeme n (in_quotes at q [] nothing)
quote_opens n at of_atom e = ap (λ o. if_not_refused o at (in_lexeme n (in_quotes at of_atom [] nothing))) e
quote_opens n at of_string e = ap (λ o. if_not_refused o at (in_lexeme n (in_quotes at of_string [] nothing))) e

-- the quote and the characters behind it
pub inside_reads : (n : Nest) (q : Quotes) (at : ℕ) (cs inside rest : List ℕ) → IsGoing n → refusal_of strict n (sort_in q) ≡ None → Holds n q cs
    → 0 < length rest → AreCharacters (quote_of q) cs inside rest
    → Reads (state_in n between) at (quote_of q ∷ inside) (between_quotes n at q cs nothing) rest
inside_reads n q at cs inside rest going place hold more are =
    reads_more n between (in_quotes at q [] nothing) (between_quotes n at q cs nothing) at (quote_of q) inside rest going (quote_opens n at q place)
    (characters_reads n at q [] (at + 1) cs inside rest going hold more are)

pub quote_closes : (n : Nest) (start at : ℕ) (q : Quotes) (cs : List ℕ)
    → begin_character n start at q cs (quote_of q) ≡ led_to (take strict n start (token_of q cs))
quote_closes n start at of_atom cs = refl
quote_closes n start at of_string cs = refl
