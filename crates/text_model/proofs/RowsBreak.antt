-- What the machine that reads bytes knows is what is defined over them: rules that are broken, sentences and blanks.
use Rattle.std.proofs.Common.{◌≡◌, ℕ, ◌+◌, ◌-◌, true, false, ◌==◌, ◌&&◌, Some, None, List, [], ◌∷◌, ◌++◌, length, eqb-true, ap, ◌∙◌, sym}
use Rattle.std.proofs.lemmas.Bool.{and_parts}
use Rattle.dets_term.specs.TermValue.{TermValue}
use Rattle.text_model.specs.declared.fault.TextWhy.{TextWhy}
use Rattle.text_model.specs.declared.fault.TextWhy.TheVariants.{BadToken}
use Rattle.text_model.specs.Grammar.{strict}
use Rattle.text_model.specs.Nest.{Nest, stopped, take}
use Rattle.text_model.specs.Located.{tokens_of}
use Rattle.text_model.specs.Sentence.{IsSentence, ends}
use Rattle.text_model.specs.Faults.{Breaks, IsBlankEnd}
use Rattle.text_model.specs.Reader.{Lexeme, State, is_want, is_gap, is_blank, last_fault}
use Rattle.text_model.proofs.Comes.{Comes}
use Rattle.text_model.proofs.ComesRows.{Row, stray_row, deep_row, wide_row, long_plain_row, full_row, full_escape_row, escape_row, sequence_row}
use Rattle.text_model.proofs.ComesRows.{comment_row, token_row}
use Rattle.text_model.proofs.ComesEnds.{LastRow, last_token_row, last_comment_row}
use Rattle.text_model.proofs.RowsBegin.{stray_breaks, deep_breaks, wide_breaks, long_plain_breaks}
use Rattle.text_model.proofs.RowsQuotes.{full_breaks, full_escape_breaks}
use Rattle.text_model.proofs.RowsBytes.{escape_breaks, sequence_breaks, comment_breaks}
use Rattle.text_model.proofs.RowsEnds.{token_row_breaks, last_token_breaks, last_comment_breaks}
use Rattle.text_model.proofs.RowsWell.{spells_of}
use Rattle.text_model.proofs.LastTaken.{stop_last}
use Rattle.text_model.proofs.RowsStops.{all_read, stop_by, blank_by}
use Rattle.text_model.proofs.ReachedNests.{is_wanted}
use Rattle.text_model.proofs.NestsRead.{taken_text}

-- a fault that is told behind some bytes is one by a rule, whatever follows
pub row_breaks : (p : List ℕ) (at : ℕ) (why : TextWhy) → Row p at why → (more : List ℕ) → Breaks (p ++ more) at why
row_breaks p at why (stray_row r) more = stray_breaks p at why r more
row_breaks p at why (deep_row r) more = deep_breaks p at why r more
row_breaks p at why (wide_row r) more = wide_breaks p at why r more
row_breaks p at why (long_plain_row r) more = long_plain_breaks p at why r more
row_breaks p at why (full_row r) more = full_breaks p at why r more
row_breaks p at why (full_escape_row r) more = full_escape_breaks p at why r more
row_breaks p at why (escape_row r) more = escape_breaks p at why r more
row_breaks p at why (sequence_row r) more = sequence_breaks p at why r more
row_breaks p at why (comment_row r) more = comment_breaks p at why r more
row_breaks p at why (token_row r) more = token_row_breaks p at why r more

-- and so is one that is told where the input ends
pub last_breaks : (p : List ℕ) (at : ℕ) (why : TextWhy) → LastRow p at why → Breaks p at why
last_breaks p at why (last_token_row r) = last_token_breaks p at why r
last_breaks p at why (last_comment_row r) = last_comment_breaks p at why r

-- behind a full stop a sentence was read
pub stop_sentence : (p : List ℕ) (n : Nest) (l : Lexeme) (t : TermValue) → Comes p n l → n.place ≡ stopped t → (rest : List ℕ) → IsSentence t (p ++ rest) rest
stop_sentence p n l t c e rest =
    let s = all_read p n l t c e in
    (tokens_of s.tokens, spells_of (length p + length rest) s.tokens (p ++ rest) rest (s.spelled rest), taken_text strict t s.tokens n s.taken e)

-- and it is at fault where it is no end
pub stop_breaks : (p : List ℕ) (n : Nest) (l : Lexeme) (t : TermValue) → Comes p n l → n.place ≡ stopped t → (rest : List ℕ)
    → ends true rest ≡ Some false → Breaks (p ++ rest) (length p - 1) BadToken
stop_breaks p n l t c e rest f =
    let s = all_read p n l t c e in
    let last = stop_last strict s.tokens n t s.taken e in
    stop_by p rest t s.tokens last.0.front last.0.at last.0.nest n (last.0.whole ∙ ap (λ k. last.0.front ++ (last.0.at, k) ∷ []) last.1) last.0.before
    (sym (ap (take strict last.0.nest last.0.at) last.1) ∙ last.0.taken) (s.spelled rest) (taken_text strict t s.tokens n s.taken e) f

-- where no token is begun there are blanks alone
pub blank_end : (p : List ℕ) (s : State) → Comes p s.nest s.lexeme → is_blank s ≡ true → last_fault s.nest (length p) s.lexeme ≡ None → IsBlankEnd p
blank_end p s c b e =
    let first = and_parts ((length s.nest.begun == 0) && is_want s.nest.place) (is_gap s.lexeme) b in
    let second = and_parts (length s.nest.begun == 0) (is_want s.nest.place) first.0 in
    blank_by p s.nest s.lexeme c (is_wanted s.nest.place second.1) (eqb-true (length s.nest.begun) 0 second.0) first.1 e
