-- Faults inside a token in quotes: a character too many.
use Rattle.std.proofs.Common.{◌≡◌, ℕ, ◌≤◌, ◌⊎◌, Bool, true, false, cond, nat_lt, Some, None, List, [], ◌∷◌, ◌++◌, length, ltb-false, refl, sym, subst}
use Rattle.std.proofs.Common.{inl, inr, arith}
use Rattle.text_model.specs.declared.fault.TextWhy.{TextWhy}
use Rattle.text_model.specs.declared.fault.TextWhy.TheVariants.{BadToken, Depth}
use Rattle.text_model.specs.Token.{a_quoted, a_string}
use Rattle.text_model.specs.Characters.{IsItself, IsCharacter, AreCharacters}
use Rattle.text_model.specs.Grammar.{strict}
use Rattle.text_model.specs.Nest.{Nest, refusal_of, may_hold}
use Rattle.text_model.specs.Located.{tokens_of}
use Rattle.text_model.specs.Faults.{BeginsWith, Shows, IsInPlace, IsQuote, MayHold, IsInside, Breaks}
use Rattle.text_model.specs.Reader.{Quotes, of_atom, of_string, quote_of, may_have}
use Rattle.text_model.proofs.MayStand.{has_value}
use Rattle.text_model.proofs.Comes.{sort_in, Holds, IsInQuotes}
use Rattle.text_model.proofs.ComesRows.{FullRow, FullEscapeRow}
use Rattle.text_model.proofs.RowsWell.{IsRead, read_before, next_token}
use Rattle.text_model.proofs.StringsStand.{held_begins, begins_held}
use Rattle.text_model.proofs.Looser.{formal_taken}
use Rattle.text_model.proofs.Passes.{value_stands}

pub quote_shows : (q : Quotes) (bytes : List ℕ) → Shows (sort_in q) (quote_of q ∷ bytes)
quote_shows of_atom bytes = (bytes, refl)
quote_shows of_string bytes = (bytes, refl)

is_quote : (q : Quotes) → IsQuote (sort_in q) (quote_of q)
is_quote of_atom = refl
is_quote of_string = refl

quotes_value : (q : Quotes) → has_value (sort_in q) ≡ true
quotes_value of_atom = refl
quotes_value of_string = refl

-- what was read in front of a token in quotes
abbrev pub IsOpened : List ℕ → Nest → ℕ → Quotes → List ℕ → Type 0
IsOpened bytes n start q inside = IsRead bytes n start (quote_of q ∷ inside)

quotes_place : (bytes : List ℕ) (n : Nest) (start : ℕ) (q : Quotes) (inside : List ℕ) (r : IsOpened bytes n start q inside)
    → refusal_of strict n (sort_in q) ≡ None → IsInPlace (tokens_of r.tokens) (quote_of q ∷ inside) (sort_in q)
quotes_place bytes n start q inside r e = record {
  shows = quote_shows q inside;
  stands = value_stands r.tokens n (sort_in q) r.taken (quotes_value q) e;
}

held : (bytes : List ℕ) (n : Nest) (start : ℕ) (q : Quotes) (cs inside : List ℕ) (r : IsOpened bytes n start q inside)
    → refusal_of strict n (sort_in q) ≡ None → Holds n q cs → MayHold (tokens_of r.tokens) (sort_in q) cs
held bytes n start of_atom cs inside r e h = h
held bytes n start of_string cs inside r e (inl none) = inl none
held bytes n start of_string cs inside r e (inr may) = inr (held_begins r.tokens n cs (formal_taken r.tokens n r.taken) e may)

pub opened : (p : List ℕ) (n : Nest) (start : ℕ) (q : Quotes) (cs pending more : List ℕ) (i : IsInQuotes p n start q cs pending)
    → IsOpened (p ++ more) n start q (i.inside ++ more)
opened p n start q cs pending more i = read_before p n start (quote_of q ∷ i.inside) more i.before (omega arith)

pub inside_of : (p : List ℕ) (n : Nest) (start : ℕ) (q : Quotes) (cs pending more : List ℕ) (i : IsInQuotes p n start q cs pending)
    (r : IsOpened (p ++ more) n start q (i.inside ++ more)) → IsInside (tokens_of r.tokens) (quote_of q ∷ (i.inside ++ more)) cs (pending ++ more)
inside_of p n start q cs pending more i r = record {
  sort = sort_in q;
  quote = quote_of q;
  quotes = is_quote q;
  in_place = quotes_place (p ++ more) n start q (i.inside ++ more) r i.in_place;
  inside = i.inside ++ more;
  opened = refl;
  characters_are = i.characters more;
  hold = held (p ++ more) n start q cs (i.inside ++ more) r i.in_place i.hold;
}

-- ---- a character too many

abbrev IsOneMore : ℕ → List ℕ → Type 0
IsOneMore quote behind = BeginsWith behind (92 ∷ []) ⊎ ((c : ℕ) × (others : List ℕ) × IsItself quote c behind others)

one_more : (quote c : ℕ) (bytes behind : List ℕ) → IsCharacter quote c bytes behind → IsOneMore quote bytes
one_more quote c bytes behind (inl is) = inr (c, behind, is)
one_more quote c bytes behind (inr (escape, e, is)) = inl (escape, e)

long_breaks : (p : List ℕ) (n : Nest) (start : ℕ) (cs pending more : List ℕ) → IsInQuotes p n start of_atom cs pending → 255 ≤ length cs
    → IsOneMore 39 (pending ++ more) → Breaks (p ++ more) start BadToken
long_breaks p n start cs pending more i long one =
    let read = opened p n start of_atom cs pending more i in
    let few : length cs ≤ 255 = i.hold in
    inl (record {
      tokens = tokens_of read.tokens;
      rest = 39 ∷ (i.inside ++ more);
      next = next_token (p ++ more) n start (39 ∷ (i.inside ++ more)) read a_quoted (quote_shows of_atom (i.inside ++ more));
      rule = inr (inr (inl (record {
        in_place = quotes_place (p ++ more) n start of_atom (i.inside ++ more) read i.in_place;
        characters = cs;
        inside = i.inside ++ more;
        behind = pending ++ more;
        opened = refl;
        characters_are = i.characters more;
        full = omega arith;
        one_more = one;
      })));
    })

no_characters : (n : Nest) (cs : List ℕ) → Holds n of_string cs → may_hold strict n ≡ false → cs ≡ []
no_characters n cs (inl none) e = none
no_characters n cs (inr may) e = cc

character_breaks : (p : List ℕ) (n : Nest) (start : ℕ) (cs pending more : List ℕ) (c : ℕ) (behind : List ℕ) → IsInQuotes p n start of_string cs pending
    → may_hold strict n ≡ false → IsCharacter 34 c (pending ++ more) behind → Breaks (p ++ more) start Depth
character_breaks p n start cs pending more c behind i deep is =
    let read = opened p n start of_string cs pending more i in
    let none : AreCharacters 34 [] (i.inside ++ more) (pending ++ more) =
    subst (λ l. AreCharacters 34 l (i.inside ++ more) (pending ++ more)) (no_characters n cs i.hold deep) (i.characters more) in
    record {
      tokens = tokens_of read.tokens;
      rest = 34 ∷ (i.inside ++ more);
      next = next_token (p ++ more) n start (34 ∷ (i.inside ++ more)) read a_string (quote_shows of_string (i.inside ++ more));
      rule = inr (record {
        in_place = quotes_place (p ++ more) n start of_string (i.inside ++ more) read i.in_place;
        character = c;
        inside = i.inside ++ more;
        behind = behind;
        opened = refl;
        first = (behind, subst (λ l. IsCharacter 34 c l behind) (sym none) is, refl);
        deep = λ b. let held = begins_held read.tokens n c [] (formal_taken read.tokens n read.taken) b in cc;
      });
    }

refused_by : (b : Bool) (other why : TextWhy) → cond b None (Some other) ≡ Some why → (b ≡ false) × (other ≡ why)
refused_by true other why e = cc
refused_by false other why e = (refl, cc)

full_by : (p : List ℕ) (n : Nest) (start : ℕ) (why : TextWhy) (q : Quotes) (cs pending more : List ℕ) (c : ℕ) (behind : List ℕ)
    → IsInQuotes p n start q cs pending → may_have n q cs ≡ Some why → IsCharacter (quote_of q) c (pending ++ more) behind → Breaks (p ++ more) start why
full_by p n start why of_atom cs pending more c behind i e is =
    let refused = refused_by (nat_lt (length cs) 255) BadToken why e in
    subst (λ w. Breaks (p ++ more) start w) refused.1
    (long_breaks p n start cs pending more i (ltb-false (length cs) 255 refused.0) (one_more 39 c (pending ++ more) behind is))
full_by p n start why of_string cs pending more c behind i e is =
    let refused = refused_by (may_hold strict n) Depth why e in
    subst (λ w. Breaks (p ++ more) start w) refused.1 (character_breaks p n start cs pending more c behind i refused.0 is)

pub full_breaks : (p : List ℕ) (at : ℕ) (why : TextWhy) → FullRow p at why → (more : List ℕ) → Breaks (p ++ more) at why
full_breaks p at why r more =
    let one = r.one_more more in full_by p r.nest at why r.quotes r.characters r.pending more one.0 one.1 r.inside r.refused one.2

pub full_escape_breaks : (p : List ℕ) (at : ℕ) (why : TextWhy) → FullEscapeRow p at why → (more : List ℕ) → Breaks (p ++ more) at why
full_escape_breaks p at why r more =
    subst (λ w. Breaks (p ++ more) at w) (sym r.reason) (long_breaks p r.nest at r.characters (92 ∷ []) more r.inside r.long (inl (more, refl)))
