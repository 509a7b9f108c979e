-- What was read in front of a token goes well, and the token is the next one.
use Rattle.std.proofs.Common.{◌≡◌, ℕ, ◌+◌, ◌<◌, Ok, List, [], ◌∷◌, ◌++◌, length, length-append, refl, ap, sym, subst, arith}
use Rattle.dets_term.specs.TermValue.{TermValue}
use Rattle.text_model.specs.Token.{Token, Sort}
use Rattle.text_model.specs.Spelling.{Skips, Spells}
use Rattle.text_model.specs.Grammar.{strict, IsText}
use Rattle.text_model.specs.Nest.{Nest, Taken, fresh}
use Rattle.text_model.specs.Located.{tokens_of, SpellsTo, take_all}
use Rattle.text_model.specs.Faults.{Shows, with_repeats, GoesWell, IsNextToken}
use Rattle.text_model.proofs.TextTaken.{text_taken}
use Rattle.text_model.proofs.Closing.{taken_begins}
use Rattle.text_model.proofs.RepeatedKeys.{taken_apart}
use Rattle.text_model.proofs.Comes.{IsGoing, Before}
use Rattle.text_model.proofs.TokenStarts.{shows_begins}
use Rattle.text_model.proofs.Looser.{repeating_taken}

-- Bytes with what stands from an offset on: in front of it are tokens that lead to this nest, and blanks.
pub record IsRead (bytes : List ℕ) (n : Nest) (start : ℕ) (rest : List ℕ) : Type 0 where
  pub tokens : List (ℕ × Token)
  pub taken : take_all strict fresh tokens ≡ Ok n
  pub going : IsGoing n
  pub middle : List ℕ
  pub spelled : SpellsTo (length bytes) tokens bytes middle
  pub skips : Skips middle rest
  pub offset : length bytes ≡ start + length rest

-- where the next token is begun no full stop was read
pub going_before : (p : List ℕ) (n : Nest) (start : ℕ) (front : List ℕ) → Before p n start front → 0 < length front → IsGoing n
going_before p n start front b some t e = omega (arith, ap length (b.stop t e), length-append b.blanks front)

pub read_before : (p : List ℕ) (n : Nest) (start : ℕ) (front more : List ℕ) → Before p n start front → 0 < length front
    → IsRead (p ++ more) n start (front ++ more)
read_before p n start front more b some = record {
  tokens = b.tokens;
  taken = b.taken;
  going = going_before p n start front b some;
  middle = b.blanks ++ (front ++ more);
  spelled =
      subst (λ total. SpellsTo total b.tokens (p ++ more) (b.blanks ++ (front ++ more))) (sym (length-append p more)) (b.spelled more);
  skips = (b.blanks, b.blank, refl);
  offset = omega (arith, length-append p more, length-append front more, b.offset);
}

pub spells_of : (total : ℕ) (ps : List (ℕ × Token)) (bytes rest : List ℕ) → SpellsTo total ps bytes rest → Spells (tokens_of ps) bytes rest
spells_of total [] bytes rest e = e
spells_of total (p ∷ ps) bytes rest (here, behind, skips, at, stands, more) =
    (here, behind, skips, stands, spells_of total ps behind rest more)

same_nest : (n m : Nest) (t : Taken) → t ≡ Ok n → t ≡ Ok m → n ≡ m
same_nest n m t e f = cc

pub goes_well : (bytes : List ℕ) (n : Nest) (start : ℕ) (rest : List ℕ) (r : IsRead bytes n start rest) → GoesWell bytes (tokens_of r.tokens) start rest
goes_well bytes n start rest r = record {
  behind = r.middle;
  spelled = spells_of (length bytes) r.tokens bytes r.middle r.spelled;
  skips = r.skips;
  offset = r.offset;
  begins = taken_begins with_repeats refl (omega arith) r.tokens n (repeating_taken r.tokens n r.taken);
  unended = ended;
  distinct = λ front more before parted repeats. taken_apart r.tokens n r.taken front more before parted repeats;
}
  where
    ended : (t : TermValue) → IsText with_repeats t (tokens_of r.tokens) → ⊥
    ended t x =
        let same = same_nest _ n (take_all with_repeats fresh r.tokens) (text_taken with_repeats t r.tokens x) (repeating_taken r.tokens n r.taken) in
        r.going t (sym (ap (λ (m : Nest). m.place) same))

-- the next token
pub next_token : (bytes : List ℕ) (n : Nest) (start : ℕ) (rest : List ℕ) (r : IsRead bytes n start rest) (sort : Sort) → Shows sort rest
    → IsNextToken bytes (tokens_of r.tokens) start rest
next_token bytes n start rest r sort s = record { well = goes_well bytes n start rest r; begins = shows_begins sort rest s }
