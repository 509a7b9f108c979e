-- How the machine reads what stands in quotes: whole tokens, and the rules that are broken inside.
use Rattle.std.proofs.Common.{◌≡◌, ◌⊎◌, inl, inr, ℕ, ◌+◌, ◌<◌, nat_lt, false, cond, List, [], ◌∷◌, ◌++◌, length, length-append, None, Some}
use Rattle.std.proofs.Common.{encode_utf8, refl, ap, sym, ◌∙◌, subst, arith}
use Rattle.std.specs.Char.{IsScalar}
use Rattle.text_model.specs.declared.fault.TextWhy.TheVariants.{BadToken, BadUtf8, Depth}
use Rattle.text_model.specs.Token.{a_quoted, a_string}
use Rattle.text_model.specs.Characters.{IsItself, Escapes, AreCharacters}
use Rattle.text_model.specs.Grammar.{strict}
use Rattle.text_model.specs.Nest.{Nest, take, refusal_of, may_hold}
use Rattle.text_model.specs.Faults.{BeginsWith}
use Rattle.text_model.specs.Reader.{Quotes, of_atom, of_string, in_quotes, nothing, between, quote_of, token_of, led_to, outcome, faulty}
use Rattle.text_model.proofs.Comes.{IsGoing, sort_in, Holds}
use Rattle.text_model.proofs.Runs.{run, run_by}
use Rattle.text_model.proofs.Sequences.{encode_some}
use Rattle.text_model.proofs.QuotesSteps.{between_quotes, pushes_refused}
use Rattle.text_model.proofs.CharactersRead.{itself_pushes, no_escape_begins, quote_opens, quote_closes, inside_reads}
use Rattle.text_model.proofs.CharactersRefused.{character_refused}
use Rattle.text_model.proofs.BadEscapesRead.{escape_fails}
use Rattle.text_model.proofs.SequencesRead.{sequence_fails}
use Rattle.text_model.proofs.RunSteps.{led_fails, led_outcome, reads_outcome, run_led, at_token}

-- a whole token in quotes is taken
pub quoted_run : (n : Nest) (q : Quotes) (at : ℕ) (cs inside behind : List ℕ) → IsGoing n → refusal_of strict n (sort_in q) ≡ None → Holds n q cs
    → AreCharacters (quote_of q) cs inside (quote_of q ∷ behind)
    → (last : ℕ) × (length (quote_of q ∷ inside) + at ≡ last + 1 + length behind)
    × (run (at_token n) at (quote_of q ∷ inside) ≡ run_by last (led_to (take strict n at (token_of q cs))) (λ s. run s (last + 1) behind))
quoted_run n q at cs inside behind going place hold are =
    let r = inside_reads n q at cs inside (quote_of q ∷ behind) going place hold (omega arith) are in (
      r.to,
      omega (arith, r.offset),
      r.same ∙ run_led n (in_quotes at q cs nothing) r.to (quote_of q) behind (led_to (take strict n at (token_of q cs))) going (quote_closes n at r.to q cs),
    )

one_more : (n : Nest) (at to : ℕ) (cs behind : List ℕ) → IsGoing n → length cs ≡ 255
    → BeginsWith behind (92 ∷ []) ⊎ ((c : ℕ) × (others : List ℕ) × IsItself 39 c behind others)
    → outcome (between_quotes n at of_atom cs nothing) to behind ≡ faulty at BadToken
one_more n at to cs behind going full (inl (rest, e)) =
    subst (λ l. outcome (between_quotes n at of_atom cs nothing) to l ≡ faulty at BadToken) (sym e)
    (led_fails n (in_quotes at of_atom cs nothing) to 92 at rest BadToken going (no_escape_begins n at to of_atom cs (ap (λ k. nat_lt k 255) full)))
one_more n at to cs behind going full (inr (c, others, is)) =
    pushes_refused n at of_atom cs c nothing to behind others BadToken (itself_pushes n at of_atom cs c to behind others going is)
    (ap (λ k. cond (nat_lt k 255) None (Some BadToken)) full)

one_more_some : (behind : List ℕ) → BeginsWith behind (92 ∷ []) ⊎ ((c : ℕ) × (others : List ℕ) × IsItself 39 c behind others) → 0 < length behind
one_more_some behind (inl (rest, e)) = omega (arith, ap length e)
one_more_some behind (inr (c, others, is)) = omega (arith, ap length is.whole, length-append (encode_utf8 c) others, encode_some c)

-- a character too many for an atom
pub long_quoted : (n : Nest) (at : ℕ) (cs inside behind : List ℕ) → IsGoing n → refusal_of strict n a_quoted ≡ None → length cs ≡ 255
    → AreCharacters 39 cs inside behind → BeginsWith behind (92 ∷ []) ⊎ ((c : ℕ) × (others : List ℕ) × IsItself 39 c behind others)
    → outcome (at_token n) at (39 ∷ inside) ≡ faulty at BadToken
long_quoted n at cs inside behind going place full are more =
    let r = inside_reads n of_atom at cs inside behind going place (omega (arith, full)) (one_more_some behind more) are in
    reads_outcome (at_token n) (between_quotes n at of_atom cs nothing) at (39 ∷ inside) behind r ∙ one_more n at r.to cs behind going full more

-- a character of a string that stands at the last level
pub deep_character : (n : Nest) (at c : ℕ) (inside behind : List ℕ) → IsGoing n → refusal_of strict n a_string ≡ None → may_hold strict n ≡ false
    → AreCharacters 34 (c ∷ []) inside behind → outcome (at_token n) at (34 ∷ inside) ≡ faulty at Depth
deep_character n at c inside behind going place deep (middle, is, others) =
    led_outcome n between (in_quotes at of_string [] nothing) at 34 inside going (quote_opens n at of_string place)
    ∙ character_refused n at of_string [] c (at + 1) inside middle Depth going refl (ap (λ b. cond b None (Some Depth)) deep) is

-- a backslash that begins no escape, whatever follows
pub bad_escape : (n : Nest) (q : Quotes) (at : ℕ) (cs inside escape : List ℕ) → IsGoing n → refusal_of strict n (sort_in q) ≡ None → Holds n q cs
    → AreCharacters (quote_of q) cs inside (92 ∷ escape) → ((more : List ℕ) (c : ℕ) (behind : List ℕ) → Escapes c (escape ++ more) behind → ⊥)
    → outcome (at_token n) at (quote_of q ∷ inside) ≡ faulty at BadToken
bad_escape n q at cs inside escape going place hold are bad =
    let r = inside_reads n q at cs inside (92 ∷ escape) going place hold (omega arith) are in
    reads_outcome (at_token n) (between_quotes n at q cs nothing) at (quote_of q ∷ inside) (92 ∷ escape) r ∙ escape_fails n at q cs r.to escape going bad

-- bytes that begin no character, whatever follows
pub bad_sequence : (n : Nest) (q : Quotes) (at there : ℕ) (cs inside behind : List ℕ) → IsGoing n → refusal_of strict n (sort_in q) ≡ None → Holds n q cs
    → AreCharacters (quote_of q) cs inside behind → 0 < length behind
    → ((more : List ℕ) (c : ℕ) → IsScalar c → BeginsWith (behind ++ more) (encode_utf8 c) → ⊥)
    → at + length (quote_of q ∷ inside) ≡ there + length behind → outcome (at_token n) at (quote_of q ∷ inside) ≡ faulty there BadUtf8
bad_sequence n q at there cs inside behind going place hold are some bad offset =
    let r = inside_reads n q at cs inside behind going place hold some are in
    let same : r.to ≡ there = omega (arith, r.offset) in
    reads_outcome (at_token n) (between_quotes n at q cs nothing) at (quote_of q ∷ inside) behind r
    ∙ sequence_fails n at q cs r.to behind going some bad ∙ ap (λ k. faulty k BadUtf8) same
