-- The last of some tokens that were read, and what it is the last token of, which began before.
use Rattle.std.proofs.Common.{◌≡◌, ℕ, Ok, List, [], ◌∷◌, ◌++◌, length, append-nil, refl, ap, ◌∙◌, sym, subst, arith}
use Rattle.text_model.specs.Token.{Token, sort_of}
use Rattle.text_model.specs.Spelling.{Stands, Spells}
use Rattle.text_model.specs.Grammar.{strict}
use Rattle.text_model.specs.Nest.{Nest, fresh, take}
use Rattle.text_model.specs.Located.{tokens_of, SpellsTo, take_all}
use Rattle.text_model.specs.Faults.{IsNextToken, IsSettled, IsLast}
use Rattle.text_model.proofs.TakenSteps.{take_all-append, taken_before, tokens_of-append}
use Rattle.text_model.proofs.Reaching.{reached}
use Rattle.text_model.proofs.ComesTokens.{no_blank}
use Rattle.text_model.proofs.LongerTokens.{stands_shows}
use Rattle.text_model.proofs.RowsWell.{IsRead, spells_of, next_token}
use Rattle.text_model.proofs.Going.{taken_going}
use Rattle.text_model.proofs.RefusedKeys.{StartsAt}

-- ---- tokens in two parts

pub part_spelled : (total : ℕ) (ps qs : List (ℕ × Token)) (bytes rest : List ℕ) → SpellsTo total (ps ++ qs) bytes rest
    → (middle : List ℕ) × SpellsTo total ps bytes middle × SpellsTo total qs middle rest
part_spelled total [] qs bytes rest s = (bytes, refl, s)
part_spelled total (p ∷ ps) qs bytes rest (here, behind, skips, at, stands, more) =
    let parts = part_spelled total ps qs behind rest more in
    (parts.0, (here, behind, skips, at, stands, parts.1), parts.2)

-- a token among those that were read was the next one, with those in front of it
record IsAmong (bytes : List ℕ) (before inside : List (ℕ × Token)) (at : ℕ) (middle : List ℕ) : Type 0 where
  pub first : List ℕ
  pub begins : IsNextToken bytes (tokens_of before) at first
  pub spelled : Spells (tokens_of inside) first middle

among : (bytes : List ℕ) (n : Nest) (start : ℕ) (rest : List ℕ) (r : IsRead bytes n start rest) (before ps : List (ℕ × Token)) (p : ℕ × Token)
    → r.tokens ≡ before ++ p ∷ ps → IsAmong bytes before (p ∷ ps) p.0 r.middle
among bytes n start rest r before ps p e =
    let spelled : SpellsTo (length bytes) (before ++ p ∷ ps) bytes r.middle = subst (λ l. SpellsTo (length bytes) l bytes r.middle) e r.spelled in
    let parts = part_spelled (length bytes) before (p ∷ ps) bytes r.middle spelled in
    let taken : take_all strict fresh (before ++ p ∷ ps) ≡ Ok n = sym (ap (take_all strict fresh) e) ∙ r.taken in
    let first = taken_before (take_all strict fresh before) (λ m. take_all strict m (p ∷ ps)) n
    (sym (take_all-append strict fresh before (p ∷ ps)) ∙ taken) in
    let second = taken_before (take strict first.0 p.0 p.1) (λ m. take_all strict m ps) n first.2 in
    by_parts parts.0 first.0 second.0 parts.1 parts.2 first.1 second.1
  where
    by_parts : (middle : List ℕ) (m k : Nest) → SpellsTo (length bytes) before bytes middle → SpellsTo (length bytes) (p ∷ ps) middle r.middle
        → take_all strict fresh before ≡ Ok m → take strict m p.0 p.1 ≡ Ok k → IsAmong bytes before (p ∷ ps) p.0 r.middle
    by_parts middle m k front (here, behind, skips, at, stands, more) taken next =
        let read : IsRead bytes m p.0 here = record {
          tokens = before;
          taken = taken;
          going = taken_going m k p.0 p.1 (reached strict m before (omega arith) taken) next;
          middle = middle;
          spelled = front;
          skips = skips;
          offset = at;
        } in
        record {
          first = here;
          begins = next_token bytes m p.0 here read (sort_of p.1) (stands_shows p.1 here behind stands);
          spelled = (here, behind, ([], no_blank, refl), stands, spells_of (length bytes) ps behind r.middle more);
        }

-- the last token with those in front of it
pub last_there : (bytes : List ℕ) (n : Nest) (start : ℕ) (rest behind : List ℕ) (r : IsRead bytes n start rest) (token : Token)
    → Stands token rest behind → IsSettled (tokens_of r.tokens) rest behind → (before inside : List (ℕ × Token)) (offset : ℕ)
    → r.tokens ≡ before ++ inside → StartsAt offset (inside ++ (start, token) ∷ []) → IsLast bytes offset (tokens_of before) (tokens_of inside) token
last_there bytes n start rest behind r token stands settled before [] offset e at =
    let same : tokens_of r.tokens ≡ tokens_of before = ap tokens_of (e ∙ append-nil before) in
    let next : IsNextToken bytes (tokens_of before) start rest =
    subst (λ l. IsNextToken bytes l start rest) same (next_token bytes n start rest r (sort_of token) (stands_shows token rest behind stands)) in
    record {
      first = rest;
      begins = subst (λ o. IsNextToken bytes (tokens_of before) o rest) at next;
      middle = rest;
      spelled = refl;
      at = start;
      rest = rest;
      skips = ([], no_blank, refl);
      next = subst (λ l. IsNextToken bytes l start rest) (sym (append-nil (tokens_of before))) next;
      behind = behind;
      stands = stands;
      settled = subst (λ l. IsSettled l rest behind) (same ∙ sym (append-nil (tokens_of before))) settled;
    }
last_there bytes n start rest behind r token stands settled before (p ∷ ps) offset e at =
    let a = among bytes n start rest r before ps p e in
    let same : tokens_of r.tokens ≡ tokens_of before ++ tokens_of (p ∷ ps) = ap tokens_of e ∙ tokens_of-append before (p ∷ ps) in
    record {
      first = a.first;
      begins = subst (λ o. IsNextToken bytes (tokens_of before) o a.first) at a.begins;
      middle = r.middle;
      spelled = a.spelled;
      at = start;
      rest = rest;
      skips = r.skips;
      next = subst (λ l. IsNextToken bytes l start rest) same (next_token bytes n start rest r (sort_of token) (stands_shows token rest behind stands));
      behind = behind;
      stands = stands;
      settled = subst (λ l. IsSettled l rest behind) same settled;
    }
