-- A text is one too where the rules ask less and more levels are allowed.
use Rattle.std.proofs.Common.{ℕ, zero, suc, ◌≤◌, pos, List, [], ◌∷◌, inl, inr, arith}
use Rattle.std.specs.List.{AllByRecursion}
use Rattle.dets_term.specs.TermValue.{TermValue, integer}
use Rattle.text_model.specs.declared.mark.Mark.{Mark}
use Rattle.text_model.specs.declared.mark.Mark.TheVariants.{OpenTuple, OpenMap, OpenList, OpenBits, CloseBrace}
use Rattle.text_model.specs.Token.{Token, mark, number, string}
use Rattle.text_model.specs.Grammar.{Rules, Behind, Separated, Closes, Enclosed, EndsList, InList, IsPair, IsSegment, AreSegments, InBits, Form, Text}
use Rattle.text_model.specs.Fronts.{ArePairsBefore}
use Rattle.text_model.proofs.Looser.{IsLooser}

-- what is a text of something by one relation is one by another
abbrev Implies : {A : Type 0} → (A → List Token → List Token → Type 0) → (A → List Token → List Token → Type 0) → Type 0
Implies {A = A} Item Other = (x : A) (tokens rest : List Token) → Item x tokens rest → Other x tokens rest

-- ---- items with commas between them

behind_as : {A : Type 0} (Item Other : A → List Token → List Token → Type 0) (End Last : List Token → List Token → Type 0) → Implies Item Other
    → ((tokens rest : List Token) → End tokens rest → Last tokens rest) → (xs : List A) (tokens rest : List Token) → Behind Item End xs tokens rest
    → Behind Other Last xs tokens rest
behind_as Item Other End Last f g [] tokens rest b = g tokens rest b
behind_as Item Other End Last f g (x ∷ xs) tokens rest (first, behind, comma, item, more) =
    (first, behind, comma, f x first behind item, behind_as Item Other End Last f g xs behind rest more)

separated_as : {A : Type 0} (Item Other : A → List Token → List Token → Type 0) (End Last : List Token → List Token → Type 0) → Implies Item Other
    → ((tokens rest : List Token) → End tokens rest → Last tokens rest) → (xs : List A) (tokens rest : List Token) → Separated Item End xs tokens rest
    → Separated Other Last xs tokens rest
separated_as Item Other End Last f g [] tokens rest s = absurd s
separated_as Item Other End Last f g (x ∷ xs) tokens rest (behind, item, more) =
    (behind, f x tokens behind item, behind_as Item Other End Last f g xs behind rest more)

enclosed_as : {A : Type 0} (Item Other : A → List Token → List Token → Type 0) (m : Mark) → Implies Item Other → (xs : List A) (tokens rest : List Token)
    → Enclosed Item m xs tokens rest → Enclosed Other m xs tokens rest
enclosed_as Item Other m f [] tokens rest e = e
enclosed_as Item Other m f (x ∷ xs) tokens rest e =
    separated_as Item Other (Closes m) (Closes m) f (λ more end closes. closes) (x ∷ xs) tokens rest e

-- ---- the insides of terms

list_as : (Part Other : TermValue → List Token → List Token → Type 0) → Implies Part Other → Implies (InList Part) (InList Other)
list_as Part Other f t tokens rest (inl empty) = inl empty
list_as Part Other f t tokens rest (inr (parts, tail, is, s)) =
    inr (parts, tail, is, separated_as Part Other (EndsList Part tail) (EndsList Other tail) f end parts tokens rest s)
  where
    end : (tokens rest : List Token) → EndsList Part tail tokens rest → EndsList Other tail tokens rest
    end tokens rest (inl closes) = inl closes
    end tokens rest (inr (behind, bar, last)) = inr (behind, bar, f tail behind _ last)

pair_as : (Part Other : TermValue → List Token → List Token → Type 0) → Implies Part Other → Implies (IsPair Part) (IsPair Other)
pair_as Part Other f pair tokens rest (behind, key, value) = (behind, f pair.0 tokens _ key, f pair.1 behind rest value)

segment_as : (less more : Rules) → IsLooser less more → Implies (IsSegment more) (IsSegment less)
segment_as less more l bs tokens rest (inl (v, is, range, whole)) = inl (v, is, (λ r. range (l.ranged r)), whole)
segment_as less more l bs tokens rest (inr (cs, is, range, whole)) = inr (cs, is, (λ r. range (l.ranged r)), whole)

segments_as : (less more : Rules) → IsLooser less more → Implies (AreSegments more) (AreSegments less)
segments_as less more l [] tokens rest are = absurd are
segments_as less more l (bs ∷ []) tokens rest (inl one) = inl (segment_as less more l bs tokens _ one)
segments_as less more l (bs ∷ []) tokens rest (inr (v, n, is, range, whole)) = inr (v, n, is, (λ r. range (l.ranged r)), whole)
segments_as less more l (bs ∷ cs ∷ others) tokens rest (behind, one, are) =
    (behind, segment_as less more l bs tokens _ one, segments_as less more l (cs ∷ others) behind rest are)

bits_as : (less more : Rules) → IsLooser less more → Implies (InBits more) (InBits less)
bits_as less more l t tokens rest (inl empty) = inl empty
bits_as less more l t tokens rest (inr (segments, is, are)) = inr (segments, is, segments_as less more l segments tokens rest are)

code_points_as : (Part Other : TermValue → List Token → List Token → Type 0) → Implies Part Other → (cs : List ℕ)
    → AllByRecursion (λ c. Part (integer (pos c)) (number (pos c) ∷ []) []) cs → AllByRecursion (λ c. Other (integer (pos c)) (number (pos c) ∷ []) []) cs
code_points_as Part Other f [] all = tt
code_points_as Part Other f (c ∷ cs) all = (f _ _ _ all.0, code_points_as Part Other f cs all.1)

-- ---- terms

form_as : (less more : Rules) (Part Other : TermValue → List Token → List Token → Type 0) → IsLooser less more → Implies Part Other
    → Implies (Form more Part) (Form less Other)
form_as less more Part Other l f t [] rest x = absurd x
form_as less more Part Other l f t (string cs ∷ tokens) rest (is, all, end) = (is, code_points_as Part Other f cs all, end)
form_as less more Part Other l f t (mark OpenTuple ∷ tokens) rest (parts, is, e) = (parts, is, enclosed_as Part Other CloseBrace f parts tokens rest e)
form_as less more Part Other l f t (mark OpenMap ∷ tokens) rest (pairs, is, apart, e) =
    (pairs, is, (λ d. apart (l.distinct d)), enclosed_as (IsPair Part) (IsPair Other) CloseBrace (pair_as Part Other f) pairs tokens rest e)
form_as less more Part Other l f t (mark OpenList ∷ tokens) rest x = list_as Part Other f t tokens rest x
form_as less more Part Other l f t (mark OpenBits ∷ tokens) rest x = bits_as less more l t tokens rest x
form_as less more Part Other l f t (mark other ∷ tokens) rest x = absurd x
form_as less more Part Other l f t other rest x = x

pub text_as : (less more : Rules) (deeper levels : ℕ) → IsLooser less more → levels ≤ deeper → (t : TermValue) (tokens rest : List Token)
    → Text more levels t tokens rest → Text less deeper t tokens rest
text_as less more deeper zero l h t tokens rest x = absurd x
text_as less more zero (suc levels) l h t tokens rest x = absurd (omega arith)
text_as less more (suc deeper) (suc levels) l h t tokens rest x =
    form_as less more (Text more levels) (Text less deeper) l (text_as less more deeper levels l (omega arith)) t tokens rest x

pub pairs_as : (less more : Rules) (deeper levels : ℕ) → IsLooser less more → levels ≤ deeper → (pairs : List (TermValue × TermValue))
    (tokens rest : List Token) → ArePairsBefore (Text more levels) pairs tokens rest → ArePairsBefore (Text less deeper) pairs tokens rest
pairs_as less more deeper levels l h [] tokens rest e = e
pairs_as less more deeper levels l h (pair ∷ pairs) tokens rest (behind, first, others) = (
  behind,
  pair_as (Text more levels) (Text less deeper) (text_as less more deeper levels l h) pair tokens _ first,
  pairs_as less more deeper levels l h pairs behind rest others,
)
