-- One more part of an open term, with the mark behind it: a comma, a bar, an arrow, or the closing mark.
use Rattle.std.proofs.Common.{◌≡◌, Bool, false, ◌&&◌, List, [], ◌∷◌, ◌++◌, ◌⊎◌, inl, inr, refl, ap, ◌∙◌, sym, append_assoc}
use Rattle.std.proofs.lemmas.Bool.{or_from}
use Rattle.std.proofs.lemmas.Grind.{flat_map-append}
use Rattle.std.proofs.lemmas.List.{append-nil}
use Rattle.std.specs.List.{list_any, flat_map}
use Rattle.dets_term.specs.TermValue.{TermValue, tuple, nil, bits, chain, map_of}
use Rattle.dets_term.specs.Order.{is_same}
use Rattle.dets_term.specs.Pairs.{keys, placed}
use Rattle.text_model.specs.declared.mark.Mark.{Mark}
use Rattle.text_model.specs.declared.mark.Mark.TheVariants.{OpenTuple, OpenMap, OpenList, OpenBits, CloseBrace, CloseList, CloseBits, Bar, Comma, Arrow}
use Rattle.text_model.specs.Token.{Token, mark}
use Rattle.text_model.specs.Grammar.{Rules, EndsList, IsPair, IsSegment, IsSized, Form}
use Rattle.text_model.specs.Nest.{in_tuple, in_list, in_tail, in_map, in_value, in_bits}
use Rattle.text_model.proofs.KeysApart.{any_placed, all_placed-more, repeats-more}
use Rattle.text_model.proofs.ItemsBefore.{before_more, separated_last, enclosed_last, segments_last}
use Rattle.text_model.proofs.OpenTerms.{IsInside}

-- a part, whatever is behind it
abbrev pub IsPartBy : (TermValue → List Token → List Token → Type 0) → TermValue → List Token → Type 0
IsPartBy Part t own = (rest : List Token) → Part t (own ++ rest) rest

-- what stands inside, with the part and a mark behind it
abbrev pub with_mark : List Token → List Token → Mark → List Token
with_mark inside own m = inside ++ (own ++ mark m ∷ [])

behind_mark : (inside own tokens rest : List Token) (m : Mark) → tokens ≡ with_mark inside own m ++ rest → tokens ≡ inside ++ (own ++ mark m ∷ rest)
behind_mark inside own tokens rest m e = e ∙ simp append_assoc

-- ---- commas, bars and arrows

pub tuple_comma : (rules : Rules) (Part : TermValue → List Token → List Token → Type 0) (parts : List TermValue) (t : TermValue) (inside own : List Token)
    → IsInside rules Part (in_tuple parts) inside → IsPartBy Part t own → IsInside rules Part (in_tuple (parts ++ t ∷ [])) (with_mark inside own Comma)
tuple_comma rules Part parts t inside own is part tokens rest e =
    before_more Part parts t tokens (own ++ mark Comma ∷ rest) rest (is tokens _ (behind_mark inside own tokens rest Comma e)) (part (mark Comma ∷ rest))

pub list_comma : (rules : Rules) (Part : TermValue → List Token → List Token → Type 0) (parts : List TermValue) (t : TermValue) (inside own : List Token)
    → IsInside rules Part (in_list parts) inside → IsPartBy Part t own → IsInside rules Part (in_list (parts ++ t ∷ [])) (with_mark inside own Comma)
list_comma rules Part parts t inside own is part = tuple_comma rules Part parts t inside own is part

pub list_bar : (rules : Rules) (Part : TermValue → List Token → List Token → Type 0) (parts : List TermValue) (t : TermValue) (inside own : List Token)
    → IsInside rules Part (in_list parts) inside → IsPartBy Part t own → IsInside rules Part (in_tail (parts ++ t ∷ [])) (with_mark inside own Bar)
list_bar rules Part parts t inside own is part tail tokens middle rest e last =
    separated_last Part (EndsList Part tail) parts t tokens (own ++ mark Bar ∷ middle) (mark Bar ∷ middle) rest
    (is tokens _ (behind_mark inside own tokens middle Bar e)) (part (mark Bar ∷ middle)) (inr (middle, refl, last))

pub map_arrow : (rules : Rules) (Part : TermValue → List Token → List Token → Type 0) (sorted : List (TermValue × TermValue)) (k : TermValue)
    (inside own : List Token) → (rules.distinct && list_any (is_same k) (keys sorted)) ≡ false → IsInside rules Part (in_map sorted) inside
    → IsPartBy Part k own → IsInside rules Part (in_value sorted k) (with_mark inside own Arrow)
map_arrow rules Part sorted k inside own anew (pairs, same, apart, is) part = (
  pairs,
  same,
  (λ d. or_from _ _ (any_placed k pairs ∙ ap (λ qs. list_any (is_same k) (keys qs)) (sym same)
      ∙ ap (λ b. b && list_any (is_same k) (keys sorted)) (sym d) ∙ anew) (apart d)),
  (λ v tokens middle rest e value.
      (own ++ mark Arrow ∷ middle, is tokens _ (behind_mark inside own tokens middle Arrow e), (middle, part (mark Arrow ∷ middle), value))),
)

pub value_comma : (rules : Rules) (Part : TermValue → List Token → List Token → Type 0) (sorted : List (TermValue × TermValue)) (k v : TermValue)
    (inside own : List Token) → IsInside rules Part (in_value sorted k) inside → IsPartBy Part v own
    → IsInside rules Part (in_map (placed (k, v) sorted)) (with_mark inside own Comma)
value_comma rules Part sorted k v inside own (pairs, same, apart, is) part = (
  pairs ++ (k, v) ∷ [],
  ap (placed (k, v)) same ∙ sym (all_placed-more [] pairs (k, v)),
  (λ d. repeats-more pairs (k, v) (apart d)),
  (λ tokens rest e.
      let value = is v tokens (own ++ mark Comma ∷ rest) (mark Comma ∷ rest) (behind_mark inside own tokens rest Comma e) (part (mark Comma ∷ rest)) in
      before_more (IsPair Part) pairs (k, v) tokens value.0 rest value.1 value.2),
)

joined_last : (segments : List (List Bool)) (own : List Bool) → flat_map (λ b. b) segments ++ own ≡ flat_map (λ b. b) (segments ++ own ∷ [])
joined_last segments own = ap (λ l. flat_map (λ b. b) segments ++ l) (sym (append-nil own)) ∙ sym (flat_map-append (λ b. b) segments (own ∷ []))

pub bits_comma : (rules : Rules) (Part : TermValue → List Token → List Token → Type 0) (bs last : List Bool) (inside own : List Token)
    → IsInside rules Part (in_bits bs) inside → ((rest : List Token) → IsSegment rules last (own ++ rest) rest)
    → IsInside rules Part (in_bits (bs ++ last)) (with_mark inside own Comma)
bits_comma rules Part bs last inside own (segments, same, is) part = (
  segments ++ last ∷ [],
  ap (λ l. l ++ last) same ∙ joined_last segments last,
  (λ tokens rest e. before_more (IsSegment rules) segments last tokens (own ++ mark Comma ∷ rest) rest
      (is tokens _ (behind_mark inside own tokens rest Comma e)) (part (mark Comma ∷ rest))),
)

-- ---- the closing mark: the text of the term by its opening mark, whatever is behind it

abbrev pub IsClosed : Rules → (TermValue → List Token → List Token → Type 0) → Mark → TermValue → List Token → Type 0
IsClosed rules Part m t inside = (tokens rest : List Token) → tokens ≡ inside ++ rest → Form rules Part t (mark m ∷ tokens) rest

pub tuple_closed : (rules : Rules) (Part : TermValue → List Token → List Token → Type 0) (parts : List TermValue) (t : TermValue) (inside own : List Token)
    → IsInside rules Part (in_tuple parts) inside → IsPartBy Part t own
    → IsClosed rules Part OpenTuple (tuple (chain (parts ++ t ∷ []) nil)) (with_mark inside own CloseBrace)
tuple_closed rules Part parts t inside own is part tokens rest e = (
  parts ++ t ∷ [],
  refl,
  enclosed_last Part CloseBrace parts t tokens _ rest (is tokens _ (behind_mark inside own tokens rest CloseBrace e)) (part (mark CloseBrace ∷ rest)),
)

pub list_closed : (rules : Rules) (Part : TermValue → List Token → List Token → Type 0) (parts : List TermValue) (t : TermValue) (inside own : List Token)
    → IsInside rules Part (in_list parts) inside → IsPartBy Part t own
    → IsClosed rules Part OpenList (chain (parts ++ t ∷ []) nil) (with_mark inside own CloseList)
list_closed rules Part parts t inside own is part tokens rest e =
    inr (
      parts ++ t ∷ [],
      nil,
      refl,
      separated_last Part (EndsList Part nil) parts t tokens _ (mark CloseList ∷ rest) rest (is tokens _ (behind_mark inside own tokens rest CloseList e))
          (part (mark CloseList ∷ rest)) (inl (refl, refl)),
    )

pub tail_closed : (rules : Rules) (Part : TermValue → List Token → List Token → Type 0) (parts : List TermValue) (t : TermValue) (inside own : List Token)
    → IsInside rules Part (in_tail parts) inside → IsPartBy Part t own → IsClosed rules Part OpenList (chain parts t) (with_mark inside own CloseList)
tail_closed rules Part parts t inside own is part tokens rest e =
    inr (parts, t, refl, is t tokens _ rest (behind_mark inside own tokens rest CloseList e) (part (mark CloseList ∷ rest)))

pub map_closed : (rules : Rules) (Part : TermValue → List Token → List Token → Type 0) (sorted : List (TermValue × TermValue)) (k v : TermValue)
    (inside own : List Token) → IsInside rules Part (in_value sorted k) inside → IsPartBy Part v own
    → IsClosed rules Part OpenMap (map_of (placed (k, v) sorted)) (with_mark inside own CloseBrace)
map_closed rules Part sorted k v inside own (pairs, same, apart, is) part tokens rest e =
    let value = is v tokens _ (mark CloseBrace ∷ rest) (behind_mark inside own tokens rest CloseBrace e) (part (mark CloseBrace ∷ rest)) in (
      pairs ++ (k, v) ∷ [],
      ap (λ qs. map_of (placed (k, v) qs)) same ∙ ap map_of (sym (all_placed-more [] pairs (k, v))),
      (λ d. repeats-more pairs (k, v) (apart d)),
      enclosed_last (IsPair Part) CloseBrace pairs (k, v) tokens value.0 rest value.1 value.2,
    )

pub bits_closed : (rules : Rules) (Part : TermValue → List Token → List Token → Type 0) (bs last : List Bool) (inside own : List Token)
    → IsInside rules Part (in_bits bs) inside → ((rest : List Token) → IsSegment rules last (own ++ rest) rest ⊎ IsSized rules last (own ++ rest) rest)
    → IsClosed rules Part OpenBits (bits (bs ++ last)) (with_mark inside own CloseBits)
bits_closed rules Part bs last inside own (segments, same, is) part tokens rest e =
    inr (
      segments ++ last ∷ [],
      ap bits (ap (λ l. l ++ last) same ∙ joined_last segments last),
      segments_last rules segments last tokens _ rest (is tokens _ (behind_mark inside own tokens rest CloseBits e)) (part (mark CloseBits ∷ rest)),
    )
