-- A bad escape, and bytes in quotes or in a comment that are not UTF-8.
use Rattle.std.proofs.Common.{ℕ, List, ◌∷◌, ◌++◌, length-append, encode_utf8, encode_utf8_all, append_assoc, sym, subst, inl, inr, arith}
use Rattle.text_model.specs.declared.fault.TextWhy.{TextWhy}
use Rattle.text_model.specs.Characters.{Escapes}
use Rattle.text_model.specs.Located.{tokens_of}
use Rattle.text_model.specs.Faults.{BeginsWith, Breaks}
use Rattle.text_model.specs.Reader.{quote_of}
use Rattle.text_model.proofs.Comes.{sort_in}
use Rattle.text_model.proofs.ComesRows.{EscapeRow, SequenceRow, CommentRow}
use Rattle.text_model.proofs.RowsWell.{read_before, goes_well, next_token}
use Rattle.text_model.proofs.RowsQuotes.{quote_shows, opened, inside_of}

pub escape_breaks : (p : List ℕ) (at : ℕ) (why : TextWhy) → EscapeRow p at why → (more : List ℕ) → Breaks (p ++ more) at why
escape_breaks p at why r more =
    let i = r.inside in
    let read = opened p r.nest at r.quotes r.characters (92 ∷ r.escape) more i in
    subst (λ w. Breaks (p ++ more) at w) (sym r.reason)
    (inl (record {
      tokens = tokens_of read.tokens;
      rest = quote_of r.quotes ∷ (i.inside ++ more);
      next =
          next_token (p ++ more) r.nest at (quote_of r.quotes ∷ (i.inside ++ more)) read (sort_in r.quotes) (quote_shows r.quotes (i.inside ++ more));
      rule = inr (inr (inr (inl (record {
        characters = r.characters;
        escape = r.escape ++ more;
        inside = inside_of p r.nest at r.quotes r.characters (92 ∷ r.escape) more i read;
        bad = λ others c behind is. r.bad (more ++ others) c behind (subst (λ l. Escapes c l behind) (append_assoc r.escape more others) is);
      }))));
    }))

pub sequence_breaks : (p : List ℕ) (at : ℕ) (why : TextWhy) → SequenceRow p at why → (more : List ℕ) → Breaks (p ++ more) at why
sequence_breaks p at why r more =
    let i = r.inside in
    let read = opened p r.nest r.start r.quotes r.characters r.bytes more i in
    subst (λ w. Breaks (p ++ more) at w) (sym r.reason)
    (inl (record {
      tokens = tokens_of read.tokens;
      at = r.start;
      rest = quote_of r.quotes ∷ (i.inside ++ more);
      next =
          next_token (p ++ more) r.nest r.start (quote_of r.quotes ∷ (i.inside ++ more)) read (sort_in r.quotes)
          (quote_shows r.quotes (i.inside ++ more));
      characters = r.characters;
      behind = r.bytes ++ more;
      inside = inside_of p r.nest r.start r.quotes r.characters r.bytes more i read;
      some = omega (arith, length-append r.bytes more, r.some);
      bad = λ others c scalar begins.
          r.bad (more ++ others) c scalar (subst (λ l. BeginsWith l (encode_utf8 c)) (append_assoc r.bytes more others) begins);
      there = omega (arith, length-append p more, length-append r.bytes more, r.there);
    }))

pub comment_breaks : (p : List ℕ) (at : ℕ) (why : TextWhy) → CommentRow p at why → (more : List ℕ) → Breaks (p ++ more) at why
comment_breaks p at why r more =
    let i = r.comment in
    let read = read_before p r.nest i.start (37 ∷ (encode_utf8_all i.characters ++ r.bytes)) more i.before (omega arith) in
    subst (λ w. Breaks (p ++ more) at w) (sym r.reason)
    (inr (record {
      tokens = tokens_of read.tokens;
      at = i.start;
      comment = (encode_utf8_all i.characters ++ r.bytes) ++ more;
      well = goes_well (p ++ more) r.nest i.start (37 ∷ ((encode_utf8_all i.characters ++ r.bytes) ++ more)) read;
      characters = i.characters;
      line = i.line;
      behind = r.bytes ++ more;
      parted = append_assoc (encode_utf8_all i.characters) r.bytes more;
      some = omega (arith, length-append r.bytes more, r.some);
      bad = λ c scalar begins. r.bad more c scalar begins;
      there = omega (arith, length-append p more, length-append r.bytes more, r.there);
    }))
