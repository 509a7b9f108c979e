-- What is defined over some bytes is what the machine that reads them comes to.
use Rattle.std.proofs.Common.{◌≡◌, ℕ, ◌+◌, ◌⊎◌, false, Some, List, ◌∷◌, length, Ok, inl, inr, sym, subst, arith}
use Rattle.text_model.specs.declared.fault.TextWhy.{TextWhy}
use Rattle.text_model.specs.declared.fault.TextWhy.TheVariants.{BadToken, BadUtf8, Depth, IntegerRange, RepeatedKey, Unfinished, TooLong}
use Rattle.text_model.specs.Token.{Token}
use Rattle.text_model.specs.Grammar.{strict}
use Rattle.text_model.specs.Nest.{Nest, fresh}
use Rattle.text_model.specs.Located.{tokens_of, take_all}
use Rattle.text_model.specs.Sentence.{ends}
use Rattle.text_model.specs.Faults.{IsStray, IsDeep, IsOutOfRange, IsLongPlain, IsInside, IsLongQuoted, IsDeepCharacter, IsBadEscape, IsNoEnd}
use Rattle.text_model.specs.Faults.{IsBadInQuotes, IsBadInComment, BreaksAt, Breaks}
use Rattle.text_model.specs.Reader.{fresh_state, outcome, faulty}
use Rattle.text_model.proofs.Comes.{IsGoing}
use Rattle.text_model.proofs.WellRead.{well_read}
use Rattle.text_model.proofs.WellRead.{read_outcome}
use Rattle.text_model.proofs.RulesRead.{long_plain_read, out_of_range_read, no_end_read}
use Rattle.text_model.proofs.InsideRead.{bad_escape_read, bad_sequence_read, long_quoted_read, deep_character_read}
use Rattle.text_model.proofs.CommentsRead.{bad_comment}
use Rattle.text_model.proofs.DeepRead.{stray_read, deep_read}
use Rattle.text_model.proofs.KeysRead.{repeats_read}
use Rattle.text_model.proofs.SegmentsRead.{range_read}
use Rattle.text_model.proofs.RunSteps.{at_token}
use Rattle.text_model.proofs.TokenStarts.{begins_some}

-- a rule on what begins where the next token begins
abbrev IsTold : (List Token → List ℕ → Type 0) → ℕ → TextWhy → Type 0
IsTold Rule at why = (ps : List (ℕ × Token)) (n : Nest) (rest : List ℕ) → take_all strict fresh ps ≡ Ok n → IsGoing n → ends false rest ≡ Some false
    → Rule (tokens_of ps) rest → outcome (at_token n) at rest ≡ faulty at why

at_place : (Rule : List Token → List ℕ → Type 0) (bytes : List ℕ) (at : ℕ) (why : TextWhy) → IsTold Rule at why → BreaksAt Rule bytes at
    → outcome fresh_state 0 bytes ≡ faulty at why
at_place Rule bytes at why told b =
    let r = well_read bytes b.tokens at b.rest b.next.well (begins_some b.rest b.next.begins) in
    read_outcome bytes b.rest b.tokens at (faulty at why) r b.next.well.offset
    (told r.located r.nest b.rest r.taken r.goes b.next.begins (subst (λ k. Rule k b.rest) (sym r.same) b.rule))

token_told : (at : ℕ) → IsTold (λ tokens rest. IsStray tokens rest ⊎ (IsLongPlain tokens rest ⊎ (IsLongQuoted tokens rest
    ⊎ (IsBadEscape tokens rest ⊎ IsNoEnd tokens rest)))) at BadToken
token_told at ps n rest e goes begins (inl b) = stray_read ps n at rest e goes begins b
token_told at ps n rest e goes begins (inr (inl b)) = long_plain_read ps n at rest e goes b
token_told at ps n rest e goes begins (inr (inr (inl b))) = long_quoted_read ps n at rest e goes b
token_told at ps n rest e goes begins (inr (inr (inr (inl b)))) = bad_escape_read ps n at rest e goes b
token_told at ps n rest e goes begins (inr (inr (inr (inr b)))) = no_end_read ps n at rest e goes b

depth_told : (at : ℕ) → IsTold (λ tokens rest. IsDeep tokens rest ⊎ IsDeepCharacter tokens rest) at Depth
depth_told at ps n rest e goes begins (inl b) = deep_read ps n at rest e goes b
depth_told at ps n rest e goes begins (inr b) = deep_character_read ps n at rest e goes b

in_quotes_told : (bytes : List ℕ) (at : ℕ) → IsBadInQuotes bytes at → outcome fresh_state 0 bytes ≡ faulty at BadUtf8
in_quotes_told bytes at b =
    let r = well_read bytes b.tokens b.at b.rest b.next.well (begins_some b.rest b.next.begins) in
    let there : length bytes ≡ b.at + length b.rest = b.next.well.offset in
    let offset : length bytes ≡ at + length b.behind = b.there in
    read_outcome bytes b.rest b.tokens b.at (faulty at BadUtf8) r there
    (bad_sequence_read r.located r.nest b.at at b.rest b.characters b.behind r.taken r.goes
    (subst (λ k. IsInside k b.rest b.characters b.behind) (sym r.same) b.inside) b.some b.bad (omega arith))

in_comment_told : (bytes : List ℕ) (at : ℕ) → IsBadInComment bytes at → outcome fresh_state 0 bytes ≡ faulty at BadUtf8
in_comment_told bytes at b =
    let r = well_read bytes b.tokens b.at (37 ∷ b.comment) b.well (omega arith) in
    let there : length bytes ≡ b.at + length (37 ∷ b.comment) = b.well.offset in
    let offset : length bytes ≡ at + length b.behind = b.there in
    read_outcome bytes (37 ∷ b.comment) b.tokens b.at (faulty at BadUtf8) r there
    (bad_comment r.nest b.at at b.comment b.characters b.behind r.goes b.line b.parted b.some b.bad (omega arith))

-- a rule that is broken is told
pub breaks_outcome : (bytes : List ℕ) (at : ℕ) (why : TextWhy) → Breaks bytes at why → outcome fresh_state 0 bytes ≡ faulty at why
breaks_outcome bytes at BadToken (inl b) = at_place _ bytes at BadToken (token_told at) b
breaks_outcome bytes at BadToken (inr b) = range_read bytes at b
breaks_outcome bytes at BadUtf8 (inl b) = in_quotes_told bytes at b
breaks_outcome bytes at BadUtf8 (inr b) = in_comment_told bytes at b
breaks_outcome bytes at Depth b = at_place _ bytes at Depth (depth_told at) b
breaks_outcome bytes at IntegerRange b =
    at_place IsOutOfRange bytes at IntegerRange (λ ps n rest e goes begins rule. out_of_range_read ps n at rest e goes rule) b
breaks_outcome bytes at RepeatedKey b = repeats_read bytes at b
breaks_outcome bytes at Unfinished b = absurd b
breaks_outcome bytes at TooLong b = absurd b
