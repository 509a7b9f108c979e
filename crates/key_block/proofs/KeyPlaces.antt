-- The key among plain elements, and the payload that they stand in.
use Rattle.std.proofs.Common.{◌≡◌, ◌≤◌, ◌<◌, ℕ, zero, suc, ◌+◌, ◌-◌, leb, List, [], ◌∷◌, ◌++◌, length, take, drop, slice_get, Option, Some, None, refl, sym, ap, ◌∙◌, subst, arith, append_assoc}
use Rattle.std.specs.List.{flat_map, concat}
use Rattle.std.proofs.lemmas.Bool.{cond-true, le-leb}
use Rattle.std.proofs.lemmas.List.{append-nil, length-append}
use Rattle.std.proofs.lemmas.Grind.{flat_map-append}
use Rattle.dets_term.specs.TermValue.{TermValue, tuple, nil, chain, key}
use Rattle.dets_term.specs.Parts.{elements-chain}
use Rattle.etf_model.specs.declared.tags.TheConstants.{VERSION, LIST, SMALL_TUPLE, NIL}
use Rattle.etf_model.specs.Canonical.{canonical, tuple_head}
use Rattle.etf_model.specs.CanonicalWholes.{canonical-tuple}
use Rattle.file_model.specs.Packing.{payload_of}
use Rattle.key_block.specs.Single.{IsPlain, ArePlain, IsPlainFront, Measures, ArePlainFront, IsKeyAmong, IsSingleKey}
use Rattle.key_block.proofs.PlainFronts.{behind_first, same_front, same_fronts}

-- ---- a place in a list

-- the elements before and behind a place
record SplitsAt (ts : List TermValue) (place : ℕ) (t : TermValue) : Type 0 where
  front : List TermValue
  back : List TermValue
  whole : ts ≡ front ++ t ∷ back
  placed : length front ≡ place

split : (ts : List TermValue) (place : ℕ) (t : TermValue) → slice_get ts place ≡ Some t → SplitsAt ts place t
split [] place t e = absurd (cc e)
split (u ∷ ts) zero t e = record { front = []; back = ts; whole = (let same : u ≡ t = cc e in ap (λ v. v ∷ ts) same); placed = refl }
split (u ∷ ts) (suc place) t e =
    let s = split ts place t e in
    record { front = u ∷ s.front; back = s.back; whole = ap (λ vs. u ∷ vs) s.whole; placed = ap suc s.placed }

here : (front : List TermValue) (t : TermValue) (back : List TermValue) → slice_get (front ++ t ∷ back) (length front) ≡ Some t
here [] t back = refl
here (u ∷ front) t back = here front t back

both_plain : (front back : List TermValue) → ArePlain front → ArePlain back → ArePlain (front ++ back)
both_plain [] back p q = q
both_plain (t ∷ front) back p q = (p.0, both_plain front back p.1 q)

parts_plain : (front back : List TermValue) → ArePlain (front ++ back) → ArePlain front × ArePlain back
parts_plain [] back p = (tt, p)
parts_plain (t ∷ front) back p = let rest = parts_plain front back p.1 in ((p.0, rest.0), rest.1)

key_at : (ts : List TermValue) (place : ℕ) → key (tuple (chain ts nil)) (suc place) ≡ slice_get ts place
key_at ts place = ap (λ us. slice_get us place) (elements-chain ts)

-- ---- the key among elements

-- a key stands behind some elements and before others
record Placed (keypos arity : ℕ) (bytes key_bytes : List ℕ) : Type 0 where
  front : List TermValue
  key_term : TermValue
  back : List TermValue
  front_plain : ArePlain front
  key_plain : IsPlain key_term
  back_plain : ArePlain back
  before : length front + 1 ≡ keypos
  behind : length back + keypos ≡ arity
  whole : bytes ≡ flat_map canonical front ++ (canonical key_term ++ flat_map canonical back)

placed_at : (place arity : ℕ) (bytes key_bytes : List ℕ) (k : IsKeyAmong (suc place) arity bytes key_bytes) → Placed (suc place) arity bytes key_bytes
placed_at place arity bytes key_bytes k =
    let s = split k.elements place k.key_term (sym (key_at k.elements place) ∙ k.has_key) in
    let plain = parts_plain s.front (k.key_term ∷ s.back) (subst ArePlain s.whole k.plain) in
    let size : length k.elements ≡ length s.front + length (k.key_term ∷ s.back) = ap length s.whole ∙ length-append s.front (k.key_term ∷ s.back) in
    record {
      front = s.front;
      key_term = k.key_term;
      back = s.back;
      front_plain = plain.0;
      key_plain = plain.1.0;
      back_plain = plain.1.1;
      before = omega (arith, s.placed);
      behind = omega (arith, s.placed, k.counted);
      whole = k.whole ∙ ap (flat_map canonical) s.whole ∙ flat_map-append canonical s.front (k.key_term ∷ s.back);
    }

placed : (keypos arity : ℕ) (bytes key_bytes : List ℕ) → IsKeyAmong keypos arity bytes key_bytes → Placed keypos arity bytes key_bytes
placed zero arity bytes key_bytes k = absurd (cc k.has_key)
placed (suc place) arity bytes key_bytes k = placed_at place arity bytes key_bytes k

pub no_place : (keypos arity : ℕ) (bytes key_bytes : List ℕ) → IsKeyAmong keypos arity bytes key_bytes → (0 < keypos) × (keypos ≤ arity)
no_place keypos arity bytes key_bytes k = let p = placed keypos arity bytes key_bytes k in (omega (arith, p.before), omega (arith, p.behind))

-- ---- what is cut in order: the elements before the key, the key, and those behind it

module _ (keypos arity : ℕ) (bytes : List ℕ) (low : 0 < keypos) (high : keypos ≤ arity) where
  pub none_before : ((rest : List ℕ) → ArePlainFront (keypos - 1) bytes rest → ⊥) → (key_bytes : List ℕ) → IsKeyAmong keypos arity bytes key_bytes → ⊥
  none_before none key_bytes k =
      let p = placed keypos arity bytes key_bytes k in
      none (canonical p.key_term ++ flat_map canonical p.back)
      (record { terms = p.front; plain = p.front_plain; counted = omega (arith, p.before); whole = p.whole })

  module _ (from : List ℕ) (before : ArePlainFront (keypos - 1) bytes from) where
    from_key : (key_bytes : List ℕ) (p : Placed keypos arity bytes key_bytes) → from ≡ canonical p.key_term ++ flat_map canonical p.back
    from_key key_bytes p =
        same_fronts before.terms p.front from (canonical p.key_term ++ flat_map canonical p.back) before.plain p.front_plain (omega (arith, before.counted, p.before))
        (sym before.whole ∙ p.whole)

    pub none_here : Measures from None → (key_bytes : List ℕ) → IsKeyAmong keypos arity bytes key_bytes → ⊥
    none_here none key_bytes k =
        let p = placed keypos arity bytes key_bytes k in none p.key_term (flat_map canonical p.back) p.key_plain (from_key key_bytes p)

    module _ (n : ℕ) (found : IsPlainFront from n) (others : List ℕ) (cut : others ≡ drop n from) where
      others_back : (key_bytes : List ℕ) (p : Placed keypos arity bytes key_bytes) → others ≡ flat_map canonical p.back
      others_back key_bytes p =
          (same_front found.term p.key_term others (flat_map canonical p.back) found.plain p.key_plain
          (sym (behind_first from others n found cut) ∙ from_key key_bytes p)).1

      pub none_after : ((rest : List ℕ) → ArePlainFront (arity - keypos) others rest → ⊥) → (key_bytes : List ℕ) → IsKeyAmong keypos arity bytes key_bytes → ⊥
      none_after none key_bytes k =
          let p = placed keypos arity bytes key_bytes k in
          none [] (record {
            terms = p.back;
            plain = p.back_plain;
            counted = omega (arith, p.behind);
            whole = others_back key_bytes p ∙ sym (append-nil (flat_map canonical p.back));
          })

      module _ (rest : List ℕ) (after : ArePlainFront (arity - keypos) others rest) where
        pub none_left : (length rest ≡ 0 → ⊥) → (key_bytes : List ℕ) → IsKeyAmong keypos arity bytes key_bytes → ⊥
        none_left some key_bytes k =
            let p = placed keypos arity bytes key_bytes k in
            some (ap length (same_fronts after.terms p.back rest [] after.plain p.back_plain (omega (arith, after.counted, p.behind))
            (sym after.whole ∙ others_back key_bytes p ∙ sym (append-nil (flat_map canonical p.back)))))

        none_more : length rest ≡ 0 → others ≡ flat_map canonical after.terms
        none_more e = after.whole ∙ ap (λ bs. flat_map canonical after.terms ++ bs) (empty rest e) ∙ append-nil (flat_map canonical after.terms) where
          empty : (bs : List ℕ) → length bs ≡ 0 → bs ≡ []
          empty [] e = refl
          empty (b ∷ bs) e = absurd (omega arith)

        pub key_found : length rest ≡ 0 → (key_bytes : List ℕ) → key_bytes ≡ take n from → IsKeyAmong keypos arity bytes key_bytes
        key_found e key_bytes cut_key =
            let place : keypos ≡ suc (length before.terms) = omega (arith, before.counted) in
            record {
              elements = before.terms ++ found.term ∷ after.terms;
              key_term = found.term;
              plain = both_plain before.terms (found.term ∷ after.terms) before.plain (found.plain, after.plain);
              counted = length-append before.terms (found.term ∷ after.terms) ∙ omega (arith, before.counted, after.counted);
              whole =
                  before.whole ∙ ap (λ bs. flat_map canonical before.terms ++ bs)
                  (behind_first from others n found cut ∙ ap (λ bs. canonical found.term ++ bs) (none_more e))
                  ∙ sym (flat_map-append canonical before.terms (found.term ∷ after.terms));
              has_key =
                  ap (key (tuple (chain (before.terms ++ found.term ∷ after.terms) nil))) place
                  ∙ key_at (before.terms ++ found.term ∷ after.terms) (length before.terms) ∙ here before.terms found.term after.terms;
              is_key = cut_key ∙ found.front;
            }
