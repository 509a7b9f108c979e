-- How the machine reads tokens in quotes that break a rule inside.
use Rattle.std.proofs.Common.{◌≡◌, ℕ, ◌+◌, ◌<◌, Bool, true, false, cond, List, [], ◌∷◌, ◌++◌, length, None, Ok, encode_utf8, refl, ap, ◌∙◌, sym}
use Rattle.std.proofs.Common.{subst, inl, inr, arith}
use Rattle.std.proofs.lemmas.Bool.{false_from_ne_true}
use Rattle.std.specs.Char.{IsScalar}
use Rattle.etf_model.specs.Layout.{integers}
use Rattle.text_model.specs.declared.fault.TextWhy.TheVariants.{BadToken, BadUtf8, Depth}
use Rattle.text_model.specs.Token.{Token, Sort, string, a_mark, a_quoted, a_string}
use Rattle.text_model.specs.Characters.{AreCharacters}
use Rattle.text_model.specs.Grammar.{strict, formal}
use Rattle.text_model.specs.Nest.{Nest, fresh, wants_segment, refusal, refusal_of, may_hold, string_refusal, leaf, take_bytes}
use Rattle.text_model.specs.Located.{tokens_of, take_all}
use Rattle.text_model.specs.Faults.{BeginsWith, IsInPlace, IsQuote, MayHold, IsInside, IsLongQuoted, IsDeepCharacter, IsBadEscape}
use Rattle.text_model.specs.Reader.{Quotes, of_atom, of_string, quote_of, faulty, outcome}
use Rattle.text_model.proofs.Comes.{IsGoing, sort_in, Holds}
use Rattle.text_model.proofs.Refused.{string_holds}
use Rattle.text_model.proofs.QuotesRead.{long_quoted, deep_character, bad_escape, bad_sequence}
use Rattle.text_model.proofs.TextsRead.{string_holds_by}
use Rattle.text_model.proofs.MayStand.{more_taken, more_begins}
use Rattle.text_model.proofs.RunSteps.{at_token}
use Rattle.text_model.proofs.Looser.{formal_taken}
use Rattle.text_model.proofs.Passes.{in_place_passes}

-- characters in quotes, as the machine has them
record IsOpen (n : Nest) (rest characters behind : List ℕ) : Type 0 where
  pub quotes : Quotes
  pub inside : List ℕ
  pub opened : rest ≡ quote_of quotes ∷ inside
  pub are : AreCharacters (quote_of quotes) characters inside behind
  pub place : refusal_of strict n (sort_in quotes) ≡ None
  pub hold : Holds n quotes characters

opened_by : (ps : List (ℕ × Token)) (n : Nest) (rest characters behind : List ℕ) (sort : Sort) (quote : ℕ) (inside : List ℕ) → take_all strict fresh ps ≡ Ok n
    → IsQuote sort quote → IsInPlace (tokens_of ps) rest sort → rest ≡ quote ∷ inside → AreCharacters quote characters inside behind
    → MayHold (tokens_of ps) sort characters → IsOpen n rest characters behind
opened_by ps n rest characters behind a_quoted quote inside e q i opened are hold = record {
  quotes = of_atom;
  inside = inside;
  opened = opened ∙ ap (λ x. x ∷ inside) q;
  are = subst (λ x. AreCharacters x characters inside behind) q are;
  place = in_place_passes ps n rest a_quoted e refl i;
  hold = hold;
}
opened_by ps n rest characters behind a_string quote inside e q i opened are hold = record {
  quotes = of_string;
  inside = inside;
  opened = opened ∙ ap (λ x. x ∷ inside) q;
  are = subst (λ x. AreCharacters x characters inside behind) q are;
  place = in_place_passes ps n rest a_string e refl i;
  hold = by_form hold;
}
  where
    by_form : MayHold (tokens_of ps) a_string characters → Holds n of_string characters
    by_form (inl none) = inl none
    by_form (inr begins) =
        let taken = more_taken (formal 256) ps n 0 (string characters) (formal_taken ps n e) begins in
        string_holds_by (formal 256) n taken.0 0 characters (wants_segment n) refl taken.1
opened_by ps n rest characters behind (a_mark m) quote inside e q i opened are hold = absurd q
opened_by ps n rest characters behind other quote inside e q i opened are hold = absurd q

inside_open : (ps : List (ℕ × Token)) (n : Nest) (rest characters behind : List ℕ) → take_all strict fresh ps ≡ Ok n
    → IsInside (tokens_of ps) rest characters behind → IsOpen n rest characters behind
inside_open ps n rest characters behind e i =
    opened_by ps n rest characters behind i.sort i.quote i.inside e i.quotes i.in_place i.opened i.characters_are i.hold

pub bad_escape_read : (ps : List (ℕ × Token)) (n : Nest) (at : ℕ) (rest : List ℕ) → take_all strict fresh ps ≡ Ok n → IsGoing n
    → IsBadEscape (tokens_of ps) rest → outcome (at_token n) at rest ≡ faulty at BadToken
bad_escape_read ps n at rest e goes b =
    let o = inside_open ps n rest b.characters (92 ∷ b.escape) e b.inside in
    ap (outcome (at_token n) at) o.opened ∙ bad_escape n o.quotes at b.characters o.inside b.escape goes o.place o.hold o.are b.bad

pub bad_sequence_read : (ps : List (ℕ × Token)) (n : Nest) (at there : ℕ) (rest characters behind : List ℕ) → take_all strict fresh ps ≡ Ok n → IsGoing n
    → IsInside (tokens_of ps) rest characters behind → 0 < length behind
    → ((more : List ℕ) (c : ℕ) → IsScalar c → BeginsWith (behind ++ more) (encode_utf8 c) → ⊥) → at + length rest ≡ there + length behind
    → outcome (at_token n) at rest ≡ faulty there BadUtf8
bad_sequence_read ps n at there rest characters behind e goes i some bad offset =
    let o = inside_open ps n rest characters behind e i in
    ap (outcome (at_token n) at) o.opened
    ∙ bad_sequence n o.quotes at there characters o.inside behind goes o.place o.hold o.are some bad
    (ap (λ l. at + length l) (sym o.opened) ∙ offset)

pub long_quoted_read : (ps : List (ℕ × Token)) (n : Nest) (at : ℕ) (rest : List ℕ) → take_all strict fresh ps ≡ Ok n → IsGoing n
    → IsLongQuoted (tokens_of ps) rest → outcome (at_token n) at rest ≡ faulty at BadToken
long_quoted_read ps n at rest e goes b =
    ap (outcome (at_token n) at) b.opened
    ∙ long_quoted n at b.characters b.inside b.behind goes (in_place_passes ps n rest a_quoted e refl b.in_place) b.full b.characters_are b.one_more

-- ---- a character of a string

formal_string : (n : Nest) (c : ℕ) (b : Bool) → cond b None (refusal (formal 256) n) ≡ None → may_hold (formal 256) n ≡ true
    → (m : Nest) × (cond b (take_bytes (formal 256) n 0 (c ∷ [])) (leaf (formal 256) n 0 (integers (c ∷ [])) (string_refusal (formal 256) n (c ∷ []))) ≡ Ok m)
formal_string n c true e f = (_, refl)
formal_string n c false e f =
    (_, ap (leaf (formal 256) n 0 (integers (c ∷ []))) (string_holds (refusal (formal 256) n) (may_hold (formal 256) n) e f))

pub deep_character_read : (ps : List (ℕ × Token)) (n : Nest) (at : ℕ) (rest : List ℕ) → take_all strict fresh ps ≡ Ok n → IsGoing n
    → IsDeepCharacter (tokens_of ps) rest → outcome (at_token n) at rest ≡ faulty at Depth
deep_character_read ps n at rest e goes b =
    let place = in_place_passes ps n rest a_string e refl b.in_place in
    ap (outcome (at_token n) at) b.opened
    ∙ deep_character n at b.character b.inside b.behind goes place
    (false_from_ne_true (may_hold strict n) (λ holds.
    let m = formal_string n b.character (wants_segment n) place holds in
    b.deep (more_begins (formal 256) refl (omega arith) ps n m.0 0 (string (b.character ∷ [])) (formal_taken ps n e) m.1)))
    b.first
