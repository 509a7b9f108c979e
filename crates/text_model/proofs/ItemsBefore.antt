-- Items of a term so far, each with a comma behind it: one more of them, and their end.
use Rattle.std.proofs.Common.{◌≡◌, Bool, List, [], ◌∷◌, ◌++◌, ◌⊎◌, refl, sym, subst}
use Rattle.text_model.specs.declared.mark.Mark.{Mark}
use Rattle.text_model.specs.declared.mark.Mark.TheVariants.{Comma, CloseBits}
use Rattle.text_model.specs.Token.{Token, mark}
use Rattle.text_model.specs.Grammar.{Rules, Behind, Separated, Closes, Enclosed, IsSegment, IsSized, AreSegments}

-- items, each with a comma behind it, in front of the rest
abbrev pub AreBefore : {A : Type 0} → (A → List Token → List Token → Type 0) → List A → List Token → List Token → Type 0
AreBefore Item [] tokens rest = tokens ≡ rest
AreBefore Item (x ∷ xs) tokens rest = (behind : List Token) × Item x tokens (mark Comma ∷ behind) × AreBefore Item xs behind rest

pub before_more : {A : Type 0} (Item : A → List Token → List Token → Type 0) (xs : List A) (x : A) (tokens middle rest : List Token)
    → AreBefore Item xs tokens middle → Item x middle (mark Comma ∷ rest) → AreBefore Item (xs ++ x ∷ []) tokens rest
before_more Item [] x tokens middle rest b part = (rest, subst (λ l. Item x l (mark Comma ∷ rest)) (sym b) part, refl)
before_more Item (y ∷ ys) x tokens middle rest (behind, first, b) part = (behind, first, before_more Item ys x behind middle rest b part)

behind_comma : {A : Type 0} (Item : A → List Token → List Token → Type 0) (End : List Token → List Token → Type 0) (xs : List A) (tokens rest : List Token)
    → Separated Item End xs tokens rest → Behind Item End xs (mark Comma ∷ tokens) rest
behind_comma Item End [] tokens rest s = absurd s
behind_comma Item End (x ∷ xs) tokens rest (behind, part, more) = (tokens, behind, refl, part, more)

-- the last one, and the end
pub separated_last : {A : Type 0} (Item : A → List Token → List Token → Type 0) (End : List Token → List Token → Type 0) (xs : List A) (x : A)
    (tokens middle behind rest : List Token) → AreBefore Item xs tokens middle → Item x middle behind → End behind rest
    → Separated Item End (xs ++ x ∷ []) tokens rest
separated_last Item End [] x tokens middle behind rest b part end = (behind, subst (λ l. Item x l behind) (sym b) part, end)
separated_last Item End (y ∷ ys) x tokens middle behind rest (late, first, b) part end =
    (mark Comma ∷ late, first, behind_comma Item End (ys ++ x ∷ []) late rest (separated_last Item End ys x late middle behind rest b part end))

pub enclosed_last : {A : Type 0} (Item : A → List Token → List Token → Type 0) (m : Mark) (xs : List A) (x : A) (tokens middle rest : List Token)
    → AreBefore Item xs tokens middle → Item x middle (mark m ∷ rest) → Enclosed Item m (xs ++ x ∷ []) tokens rest
enclosed_last {A = A} Item m xs x tokens middle rest b part =
    of_some (xs ++ x ∷ []) (separated_last Item (Closes m) xs x tokens middle (mark m ∷ rest) rest b part refl)
  where
    of_some : (ys : List A) → Separated Item (Closes m) ys tokens rest → Enclosed Item m ys tokens rest
    of_some [] s = absurd s
    of_some (y ∷ ys) s = s

-- the last segment, and the closing mark
pub segments_last : (rules : Rules) (segments : List (List Bool)) (own : List Bool) (tokens middle rest : List Token)
    → AreBefore (IsSegment rules) segments tokens middle → IsSegment rules own middle (mark CloseBits ∷ rest) ⊎ IsSized rules own middle (mark CloseBits ∷ rest)
    → AreSegments rules (segments ++ own ∷ []) tokens rest
segments_last rules [] own tokens middle rest b part =
    subst (λ l. IsSegment rules own l (mark CloseBits ∷ rest) ⊎ IsSized rules own l (mark CloseBits ∷ rest)) (sym b) part
segments_last rules (first ∷ []) own tokens middle rest (behind, one, b) part = (behind, one, segments_last rules [] own behind middle rest b part)
segments_last rules (first ∷ second ∷ more) own tokens middle rest (behind, one, b) part =
    (behind, one, segments_last rules (second ∷ more) own behind middle rest b part)
