-- How the machine reads a whole sentence, and a text that goes well so far.
use Rattle.std.proofs.Common.{◌≡◌, ℕ, ◌+◌, ◌<◌, List, [], ◌∷◌, ◌++◌, length, Ok, refl, ap, ◌∙◌, sym, subst, arith}
use Rattle.dets_term.specs.TermValue.{TermValue}
use Rattle.text_model.specs.Token.{Token, number, plain}
use Rattle.text_model.specs.Spelling.{Stands, Skips}
use Rattle.text_model.specs.Grammar.{strict, IsText}
use Rattle.text_model.specs.Nest.{Nest, fresh, stopped, take}
use Rattle.text_model.specs.Located.{SpellsTo, tokens_of, take_all}
use Rattle.text_model.specs.Fronts.{MayBegin}
use Rattle.text_model.specs.Sentence.{IsSentence}
use Rattle.text_model.specs.Faults.{with_repeats, GoesWell}
use Rattle.text_model.specs.Reader.{fresh_state, Outcome, outcome}
use Rattle.text_model.proofs.Comes.{IsGoing}
use Rattle.text_model.proofs.Going.{number_going, plain_going, taken_going}
use Rattle.text_model.proofs.Parted.{last_of}
use Rattle.text_model.proofs.ReachedNests.{IsReached}
use Rattle.text_model.proofs.Reaching.{reached}
use Rattle.text_model.proofs.RepeatedKeys.{well_taken}
use Rattle.text_model.proofs.Runs.{run, at_stop}
use Rattle.text_model.proofs.TakenSteps.{last_taken}
use Rattle.text_model.proofs.TextTaken.{text_taken}
use Rattle.text_model.proofs.WholeTokensRead.{IsEnded, token_read, read_taken}
use Rattle.text_model.proofs.TextsRead.{taken_may_read, stands_shorter, located, tokens_run}
use Rattle.text_model.proofs.RunSteps.{at_token, same_outcome}
use Rattle.text_model.proofs.Looser.{repeating_taken}
use Rattle.text_model.proofs.NestsRead.{taken_text}
use Rattle.text_model.proofs.LastTaken.{some_taken}

-- ---- a sentence

pub stop_run : (t : TermValue) (at : ℕ) (rest : List ℕ) → run (at_token (record { begun = []; place = stopped t })) at rest ≡ at_stop t at rest
stop_run t at [] = refl
stop_run t at (x ∷ rest) = refl

-- the last of some tokens
record IsParted (total : ℕ) (ps : List (ℕ × Token)) (p : ℕ × Token) (bytes rest : List ℕ) : Type 0 where
  pub middle : List ℕ
  pub here : List ℕ
  pub spelled : SpellsTo total ps bytes middle
  pub skips : Skips middle here
  pub offset : total ≡ p.0 + length here
  pub stands : Stands p.1 here rest

spells_parted : (total : ℕ) (ps : List (ℕ × Token)) (p : ℕ × Token) (bytes rest : List ℕ) → SpellsTo total (ps ++ p ∷ []) bytes rest
    → IsParted total ps p bytes rest
spells_parted total [] p bytes rest (here, behind, skips, offset, stands, end) = record {
  middle = bytes;
  here = here;
  spelled = refl;
  skips = skips;
  offset = offset;
  stands = subst (λ b. Stands p.1 here b) end stands;
}
spells_parted total (q ∷ ps) p bytes rest (here, behind, skips, offset, stands, more) =
    let further = spells_parted total ps p behind rest more in
    record {
      middle = further.middle;
      here = further.here;
      spelled = (here, behind, skips, offset, stands, further.spelled);
      skips = further.skips;
      offset = further.offset;
      stands = further.stands;
    }

-- neither a number nor a name is a full stop
stop_ended : (n m : Nest) (at : ℕ) (token : Token) (t : TermValue) (behind : List ℕ) → take strict n at token ≡ Ok m → m.place ≡ stopped t
    → IsEnded token behind
stop_ended n m at (number z) t behind e f = absurd (number_going n at z m e t f)
stop_ended n m at (plain cs) t behind e f = absurd (plain_going n at cs m e t f)
stop_ended n m at other t behind e f = tt

last_stop : (t : TermValue) (bytes rest : List ℕ) (ps : List (ℕ × Token)) (p : ℕ × Token) (n : Nest) → IsParted (length bytes) ps p bytes rest
    → take_all strict fresh ps ≡ Ok n → take strict n p.0 p.1 ≡ Ok (record { begun = []; place = stopped t })
    → (at : ℕ) × (length bytes ≡ at + length rest) × (run fresh_state 0 bytes ≡ at_stop t at rest)
last_stop t bytes rest ps p n parted e f =
    let here = parted.here in
    let r : IsReached strict n = reached strict n ps (omega arith) e in
    let goes = taken_going n (record { begun = []; place = stopped t }) p.0 p.1 r f in
    let left = stands_shorter p.1 here rest parted.stands in
    let front = tokens_run ps fresh n 0 (length bytes) bytes parted.middle here (reached strict fresh [] (omega arith) refl) goes (omega arith)
    parted.spelled parted.skips e (omega arith) in
    let offset = parted.offset in
    let there : front.0 ≡ p.0 = omega (arith, front.1) in
    let read = token_read n p.0 p.1 here rest goes (taken_may_read n (record { begun = []; place = stopped t }) p.0 p.1 f)
    (stop_ended n (record { begun = []; place = stopped t }) p.0 p.1 t rest f refl) parted.stands in
    let behind : p.0 + length here ≡ read.next + length rest = read.there in (
      read.next,
      omega arith,
      front.2 ∙ ap (λ k. run (at_token n) k here) there
          ∙ read_taken n (record { begun = []; place = stopped t }) p.0 p.1 here rest read f ∙ stop_run t read.next rest,
    )

-- a sentence is read to its full stop
pub sentence_run : (t : TermValue) (bytes rest : List ℕ) → IsSentence t bytes rest
    → (at : ℕ) × (length bytes ≡ at + length rest) × (run fresh_state 0 bytes ≡ at_stop t at rest)
sentence_run t bytes rest (tokens, spells, text) =
    let placed = located tokens (length bytes) bytes rest (omega arith) spells in
    let taken = text_taken strict t placed.0 (subst (IsText strict t) (sym placed.1) text) in
    let last = last_of placed.0 (some_taken strict placed.0 (record { begun = []; place = stopped t }) taken (λ e. cc)) in
    let stop = last_taken strict last.0 last.1 (record { begun = []; place = stopped t }) (ap (take_all strict fresh) (sym last.2) ∙ taken) in
    last_stop t bytes rest last.0 last.1 stop.0
    (spells_parted (length bytes) last.0 last.1 bytes rest (subst (λ l. SpellsTo (length bytes) l bytes rest) last.2 placed.2)) stop.1 stop.2

-- ---- a text that goes well

-- tokens that are taken, up to an offset where the next one may begin
pub record IsReadTo (bytes : List ℕ) (tokens : List Token) (at : ℕ) (rest : List ℕ) : Type 0 where
  pub located : List (ℕ × Token)
  pub same : tokens_of located ≡ tokens
  pub nest : Nest
  pub taken : take_all strict fresh located ≡ Ok nest
  pub goes : IsGoing nest
  pub leads : run fresh_state 0 bytes ≡ run (at_token nest) at rest

-- no full stop is among tokens that are no whole text
pub unended_going : (ps : List (ℕ × Token)) (n : Nest) → take_all strict fresh ps ≡ Ok n → ((t : TermValue) → IsText with_repeats t (tokens_of ps) → ⊥)
    → IsGoing n
unended_going ps n e none t f = none t (taken_text with_repeats t ps n (repeating_taken ps n e) f)

pub well_read : (bytes : List ℕ) (tokens : List Token) (at : ℕ) (rest : List ℕ) → GoesWell bytes tokens at rest → 0 < length rest
    → IsReadTo bytes tokens at rest
well_read bytes tokens at rest w some =
    let placed = located tokens (length bytes) bytes w.behind (omega arith) w.spelled in
    let ps = placed.0 in
    let taken = well_taken ps (subst (MayBegin with_repeats) (sym placed.1) w.begins)
    (λ front more before parted. w.distinct front more before (sym placed.1 ∙ parted)) in
    let goes = unended_going ps taken.0 taken.1 (λ t text. w.unended t (subst (IsText with_repeats t) placed.1 text)) in
    let front = tokens_run ps fresh taken.0 0 (length bytes) bytes w.behind rest (reached strict fresh [] (omega arith) refl) goes some
    placed.2 w.skips taken.1 (omega arith) in
    let offset = w.offset in
    let there : front.0 ≡ at = omega (arith, front.1) in
    record {
      located = ps;
      same = placed.1;
      nest = taken.0;
      taken = taken.1;
      goes = goes;
      leads = subst (λ k. run fresh_state 0 bytes ≡ run (at_token taken.0) k rest) {x = front.0} there front.2;
    }

-- what follows it
pub read_outcome : (bytes rest : List ℕ) (tokens : List Token) (at : ℕ) (o : Outcome) (r : IsReadTo bytes tokens at rest)
    → length bytes ≡ at + length rest → outcome (at_token r.nest) at rest ≡ o → outcome fresh_state 0 bytes ≡ o
read_outcome bytes rest tokens at o r there e = same_outcome fresh_state (at_token r.nest) 0 at bytes rest o r.leads (omega arith) e
