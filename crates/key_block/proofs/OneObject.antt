-- A payload whose key is found without unpacking spells one object that each kind allows.
use Rattle.std.proofs.Common.{◌≡◌, ◌≤◌, ◌<◌, ◌^◌, ℕ, zero, suc, Bool, true, cond, ◌&&◌, List, [], ◌∷◌, length, slice_get, Option, Some, None, refl, sym, ap, ◌∙◌, subst, arith}
use Rattle.std.proofs.lemmas.Bool.{and_from}
use Rattle.dets_term.specs.TermValue.{TermValue, tuple, nil, chain, key, elements}
use Rattle.dets_term.specs.IsTerm.{IsTerm}
use Rattle.dets_term.specs.Parts.{deepest, AreTerms, elements-chain, parts_depth-chain, IsProper-chain, IsBounded-chain}
use Rattle.dets_term.specs.Same.{same_self}
use Rattle.dets_term.specs.declared.Kind.{Kind}
use Rattle.dets_term.specs.declared.Kind.TheVariants.{Set, Bag, DuplicateBag}
use Rattle.table_model.specs.Table.{has_key, is_key}
use Rattle.file_model.specs.Block.{term_in, proper_elements, in_order, if_shared, one_key}
use Rattle.file_model.specs.Packing.{payload_of, MayPack, proper_elements-chain}
use Rattle.key_block.specs.Single.{IsPlain, ArePlain, IsSingleKey, HasOneObject}
use Rattle.key_block.proofs.Plain.{plain_term, plain_depth}

plain_at : (ts : List TermValue) (place : ℕ) (t : TermValue) → slice_get ts place ≡ Some t → ArePlain ts → IsPlain t
plain_at [] place t e p = absurd (cc e)
plain_at (u ∷ ts) zero t e p = let same : u ≡ t = cc e in subst IsPlain same p.0
plain_at (u ∷ ts) (suc place) t e p = plain_at ts place t e p.1

plain_key : (ts : List TermValue) (keypos : ℕ) (k : TermValue) → key (tuple (chain ts nil)) keypos ≡ Some k → ArePlain ts → IsPlain k
plain_key ts zero k e p = absurd (cc e)
plain_key ts (suc place) k e p = plain_at ts place k (sym (ap (λ us. slice_get us place) (elements-chain ts)) ∙ e) p

plain_terms : (ts : List TermValue) → ArePlain ts → AreTerms ts
plain_terms [] p = tt
plain_terms (t ∷ ts) p = (plain_term t p.0, plain_terms ts p.1)

plain_deepest : (ts : List TermValue) → ArePlain ts → deepest ts ≤ 1
plain_deepest [] p = omega arith
plain_deepest (t ∷ ts) p = let first = plain_depth t p.0 in let rest = plain_deepest ts p.1 in omega arith

may_pack : (ts : List TermValue) → ArePlain ts → length ts ≤ 255 → MayPack (tuple (chain ts nil) ∷ [])
may_pack ts p few =
    let parts = parts_depth-chain ts in
    let shallow = plain_deepest ts p in
    record {
      terms = (
        record { shallow = omega arith; bounded = (IsProper-chain ts, IsBounded-chain ts (omega arith) (plain_terms ts p)) },
        tt,
      );
      shallow = omega arith;
    }

-- ---- each kind allows one object for its key

one_in_order : (kind : Kind) (object : TermValue) → in_order kind (object ∷ []) ≡ true
one_in_order Set object = refl
one_in_order Bag object = refl
one_in_order DuplicateBag object = refl

one_allowed : (kind : Kind) (keypos : ℕ) (object k : TermValue) → key object keypos ≡ Some k → one_key kind keypos (object ∷ []) ≡ Some k
one_allowed kind keypos object k e =
    let own : has_key keypos k object ≡ true = ap (is_key k) e ∙ same_self k in
    ap (if_shared kind keypos (object ∷ [])) e
    ∙ ap (λ b. cond ((b && true) && in_order kind (object ∷ [])) (Some k) None) own
    ∙ ap (λ b. cond b (Some k) None) (one_in_order kind object)

-- ---- the payload

abbrev HasObjects : Type 0
HasObjects = (objects : List TermValue) → MayPack objects → length objects < 2 ^ 32 → term_in (payload_of objects) ≡ Some (chain objects nil)

pub one_object : HasObjects → (kind : Kind) (keypos : ℕ) (payload bytes : List ℕ) → IsSingleKey keypos payload bytes → HasOneObject kind keypos payload bytes
one_object has kind keypos payload bytes s =
    let object : TermValue = tuple (chain s.elements nil) in
    record {
      object = object;
      key_term = s.key_term;
      elements =
          ap (λ p. proper_elements (term_in p)) s.spelled ∙ ap proper_elements (has (object ∷ []) (may_pack s.elements s.plain s.few) (omega arith))
          ∙ proper_elements-chain (object ∷ []);
      allowed = one_allowed kind keypos object s.key_term s.has_key;
      is_term = plain_term s.key_term (plain_key s.elements keypos s.key_term s.has_key s.plain);
      key_bytes = s.key_bytes;
    }
