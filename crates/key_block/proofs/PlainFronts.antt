-- Plain terms one after the other in front of some bytes, and the key among them.
use Rattle.std.proofs.Common.{◌≡◌, ◌≤◌, ◌<◌, ℕ, zero, suc, ◌+◌, ◌-◌, List, [], ◌∷◌, ◌++◌, length, take, drop, slice_get, Option, Some, None, refl, sym, ap, ◌∙◌, subst, arith, append_assoc}
use Rattle.std.specs.List.{flat_map}
use Rattle.std.specs.Option.{MatchOption}
use Rattle.std.proofs.lemmas.Bool.{cond-true, cond-false}
use Rattle.std.proofs.lemmas.List.{append-nil, length-append, take-append-drop}
use Rattle.std.proofs.lemmas.Grind.{flat_map-append}
use Rattle.dets_term.specs.TermValue.{TermValue, integer, atom, tuple, mapping, nil, cons, bits, chain, key}
use Rattle.dets_term.specs.IsTerm.{IsTerm, IsBounded}
use Rattle.dets_term.specs.Parts.{elements-chain}
use Rattle.etf_model.specs.Beginnings.{same_whole}
use Rattle.etf_model.specs.Canonical.{canonical}
use Rattle.etf_model.specs.declared.tags.TheConstants.{VERSION}
use Rattle.etf_model.specs.Spelling.{spelling}
use Rattle.etf_model.specs.SpellingExact.{spelling-exact}
use Rattle.etf_model.proofs.CanonicalSpells.{canonical_spells}
use Rattle.key_block.specs.Single.{IsPlain, ArePlain, IsPlainFront, Measures, ArePlainFront, IsKeyAmong}
use Rattle.key_block.proofs.Plain.{plain_term}

-- ---- a plain term in front is the only one

pub same_front : (t u : TermValue) (a b : List ℕ) → IsPlain t → IsPlain u → canonical t ++ a ≡ canonical u ++ b → (t ≡ u) × (a ≡ b)
same_front t u a b p q e =
    same_whole spelling spelling-exact t u (VERSION ∷ canonical t) a (VERSION ∷ canonical u) b (canonical_spells t (plain_term t p)) (canonical_spells u (plain_term u q))
    (ap (λ bs. VERSION ∷ bs) e)

pub same_fronts : (ts us : List TermValue) (a b : List ℕ) → ArePlain ts → ArePlain us → length ts ≡ length us
    → flat_map canonical ts ++ a ≡ flat_map canonical us ++ b → a ≡ b
same_fronts [] [] a b p q n e = e
same_fronts [] (u ∷ us) a b p q n e = absurd (omega arith)
same_fronts (t ∷ ts) [] a b p q n e = absurd (omega arith)
same_fronts (t ∷ ts) (u ∷ us) a b p q n e =
    same_fronts ts us a b p.1 q.1 (omega arith)
    (same_front t u (flat_map canonical ts ++ a) (flat_map canonical us ++ b) p.0 q.0
    (sym (append_assoc (canonical t) (flat_map canonical ts) a) ∙ e ∙ append_assoc (canonical u) (flat_map canonical us) b)).1

-- ---- so many of them

-- the bytes behind the first
pub behind_first : (bytes others : List ℕ) (n : ℕ) (p : IsPlainFront bytes n) → others ≡ drop n bytes → bytes ≡ canonical p.term ++ others
behind_first bytes others n p cut =
    sym (take-append-drop n bytes) ∙ ap (λ bs. bs ++ drop n bytes) p.front ∙ ap (λ bs. canonical p.term ++ bs) (sym cut)

pub one_more : (count : ℕ) (bytes others : List ℕ) (n : ℕ) → 0 < count → IsPlainFront bytes n → others ≡ drop n bytes → (rest : List ℕ)
    → ArePlainFront (count - 1) others rest → ArePlainFront count bytes rest
one_more count bytes others n some p cut rest f = record {
  terms = p.term ∷ f.terms;
  plain = (p.plain, f.plain);
  counted = omega (arith, f.counted);
  whole =
      behind_first bytes others n p cut ∙ ap (λ bs. canonical p.term ++ bs) f.whole
      ∙ sym (append_assoc (canonical p.term) (flat_map canonical f.terms) rest);
}

none_first : (count : ℕ) (bytes rest : List ℕ) (terms : List TermValue) → 0 < count → Measures bytes None → ArePlain terms → length terms ≡ count
    → bytes ≡ flat_map canonical terms ++ rest → ⊥
none_first count bytes rest [] some none plain n e = omega arith
none_first count bytes rest (t ∷ ts) some none plain n e =
    none t (flat_map canonical ts ++ rest) plain.0 (e ∙ append_assoc (canonical t) (flat_map canonical ts) rest)

pub none_in_front : (count : ℕ) (bytes : List ℕ) → 0 < count → Measures bytes None → (rest : List ℕ) → ArePlainFront count bytes rest → ⊥
none_in_front count bytes some none rest f = none_first count bytes rest f.terms some none f.plain f.counted f.whole

none_later : (count : ℕ) (bytes others : List ℕ) (n : ℕ) (rest : List ℕ) (terms : List TermValue) → 0 < count → IsPlainFront bytes n → others ≡ drop n bytes
    → ((rest : List ℕ) → ArePlainFront (count - 1) others rest → ⊥) → ArePlain terms → length terms ≡ count
    → bytes ≡ flat_map canonical terms ++ rest → ⊥
none_later count bytes others n rest [] some p cut none plain size e = omega arith
none_later count bytes others n rest (t ∷ ts) some p cut none plain size e =
    none rest (record {
      terms = ts;
      plain = plain.1;
      counted = omega arith;
      whole =
          (same_front p.term t others (flat_map canonical ts ++ rest) p.plain plain.0
          (sym (behind_first bytes others n p cut) ∙ e ∙ append_assoc (canonical t) (flat_map canonical ts) rest)).1;
    })

pub none_behind : (count : ℕ) (bytes others : List ℕ) (n : ℕ) → 0 < count → IsPlainFront bytes n → others ≡ drop n bytes
    → ((rest : List ℕ) → ArePlainFront (count - 1) others rest → ⊥) → (rest : List ℕ) → ArePlainFront count bytes rest → ⊥
none_behind count bytes others n some p cut none rest f = none_later count bytes others n rest f.terms some p cut none f.plain f.counted f.whole

-- ---- what a call answers

pub if_some : {T : Type 0} (o : Option T) (P Q : T → Type 0) → ((x : T) → P x → Q x) → MatchOption o (Unit {0}) P → MatchOption o (Unit {0}) Q
if_some None P Q f h = tt
if_some (Some x) P Q f h = f x h

pub if_none : {T : Type 0} (o : Option T) (P Q : Type 0) → (P → Q) → MatchOption o P (λ x. Unit {0}) → MatchOption o Q (λ x. Unit {0})
if_none None P Q f h = f h
if_none (Some x) P Q f h = tt
