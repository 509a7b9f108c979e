-- The payload of one object of plain elements, and what a block with such a payload has.
use Rattle.std.proofs.Common.{◌≡◌, ◌≢◌, ◌≤◌, ◌<◌, ◌^◌, ℕ, suc, ◌+◌, ◌%◌, Bool, true, false, leb, List, [], ◌∷◌, ◌++◌, length, get_or, Some, refl, sym, ap, ◌∙◌, subst, arith}
use Rattle.std.specs.List.{flat_map}
use Rattle.std.proofs.lemmas.Bool.{cond-true, le-leb}
use Rattle.std.proofs.lemmas.List.{append-nil, append_cancel_left, append_cancel_right}
use Rattle.dets_term.specs.TermValue.{TermValue, tuple, nil, chain, key}
use Rattle.etf_model.specs.declared.tags.TheConstants.{VERSION, LIST, SMALL_TUPLE, NIL}
use Rattle.etf_model.specs.Canonical.{canonical, tuple_head}
use Rattle.etf_model.specs.CanonicalWholes.{canonical-tuple}
use Rattle.file_model.specs.Packing.{payload_of}
use Rattle.key_block.specs.Single.{ArePlain, IsKeyAmong, IsSingleKey}
use Rattle.key_block.proofs.Plain.{AreBytes}

-- what stands in front of the elements' number
abbrev pub front : List ℕ
front = VERSION ∷ LIST ∷ 0 ∷ 0 ∷ 0 ∷ 1 ∷ SMALL_TUPLE ∷ []

small_head : (n : ℕ) → n ≤ 255 → tuple_head n ≡ SMALL_TUPLE ∷ n ∷ []
small_head n few = cond-true (leb n 255) _ _ (le-leb n 255 few) ∙ ap (λ m. SMALL_TUPLE ∷ m ∷ []) (omega arith)

payload-single : (ts : List TermValue) → length ts ≤ 255
    → payload_of (tuple (chain ts nil) ∷ []) ≡ front ++ length ts ∷ (flat_map canonical ts ++ NIL ∷ [])
payload-single ts few =
    ap (λ bs. VERSION ∷ LIST ∷ 0 ∷ 0 ∷ 0 ∷ 1 ∷ ((bs ++ []) ++ NIL ∷ []))
    (canonical-tuple ts ∙ ap (λ bs. bs ++ flat_map canonical ts) (small_head (length ts) few))
    ∙ ap (λ bs. front ++ length ts ∷ (bs ++ NIL ∷ [])) (append-nil (flat_map canonical ts))

module _ (keypos : ℕ) (payload : List ℕ) where
  whole : (bytes : List ℕ) (s : IsSingleKey keypos payload bytes)
      → payload ≡ front ++ length s.elements ∷ (flat_map canonical s.elements ++ NIL ∷ [])
  whole bytes s = s.spelled ∙ payload-single s.elements s.few

  pub no_front : ((rest : List ℕ) → payload ≢ front ++ rest) → (bytes : List ℕ) → IsSingleKey keypos payload bytes → ⊥
  no_front none bytes s = none (length s.elements ∷ (flat_map canonical s.elements ++ NIL ∷ [])) (whole bytes s)

  module _ (object rest elements : List ℕ) (arity : ℕ) (in_front : payload ≡ front ++ object) (first : object ≡ arity ∷ rest)
      (end : rest ≡ elements ++ NIL ∷ []) where
    cut : payload ≡ front ++ arity ∷ (elements ++ NIL ∷ [])
    cut = in_front ∙ ap (λ bs. front ++ bs) (first ∙ ap (λ bs. arity ∷ bs) end)

    pub single_found : AreBytes payload → (bytes : List ℕ) → IsKeyAmong keypos arity elements bytes → IsSingleKey keypos payload bytes
    single_found fit bytes k =
        let byte : arity < 256 = subst (λ n. n < 256) (ap (λ bs. get_or bs 7 0) cut) (fit 7) in record {
          elements = k.elements;
          key_term = k.key_term;
          plain = k.plain;
          few = omega (arith, k.counted);
          spelled =
              cut ∙ ap (λ n. front ++ n ∷ (elements ++ NIL ∷ [])) (sym k.counted) ∙ ap (λ bs. front ++ length k.elements ∷ (bs ++ NIL ∷ [])) k.whole
              ∙ sym (payload-single k.elements (omega (arith, k.counted)));
          has_key = k.has_key;
          key_bytes = k.is_key;
        }

    pub single_none : ((bytes : List ℕ) → IsKeyAmong keypos arity elements bytes → ⊥) → (bytes : List ℕ) → IsSingleKey keypos payload bytes → ⊥
    single_none none bytes s =
        let behind : arity ∷ (elements ++ NIL ∷ []) ≡ length s.elements ∷ (flat_map canonical s.elements ++ NIL ∷ []) =
        append_cancel_left front _ _ (sym cut ∙ whole bytes s) in
        none bytes (record {
          elements = s.elements;
          key_term = s.key_term;
          plain = s.plain;
          counted = (let same : arity ≡ length s.elements = cc behind in sym same);
          whole = append_cancel_right elements (flat_map canonical s.elements) (NIL ∷ []) (cc behind);
          has_key = s.has_key;
          is_key = s.key_bytes;
        })
