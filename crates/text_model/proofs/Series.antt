-- The machine takes items with commas between them, where it takes each item, a comma behind one, and their end.
use Rattle.std.proofs.Common.{◌≡◌, ℕ, Bool, true, false, List, [], ◌∷◌, Ok, refl, ◌∙◌}
use Rattle.text_model.specs.declared.mark.Mark.TheVariants.{Comma}
use Rattle.text_model.specs.Token.{Token, mark}
use Rattle.text_model.specs.Grammar.{Rules, Behind, Separated}
use Rattle.text_model.specs.Nest.{Nest, Place, wants, want, Taken, take}
use Rattle.text_model.specs.Located.{tokens_of}
use Rattle.text_model.proofs.TakenSteps.{Steps, step, steps_on}

-- all items put to those so far
abbrev pub joined : {A D : Type 0} → (D → A → D) → D → List A → D
joined push d [] = d
joined push d (x ∷ xs) = joined push (push d x) xs

-- no item is refused behind those so far
abbrev pub AllMay : {A D : Type 0} → (D → A → D) → (D → A → Bool) → D → List A → Type 0
AllMay push refuses d [] = Unit {0}
AllMay push refuses d (x ∷ xs) = (refuses d x ≡ false) × AllMay push refuses (push d x) xs

-- What an open term is to do with its items and their end; it keeps the items so far in a form of its own.
pub record Series (rules : Rules) {A : Type 0} (D : Type 0) (Item : A → List Token → List Token → Type 0)
    (End : List Token → List Token → Type 0) : Type 0 where
  pub push : D → A → D
  pub refuses : D → A → Bool
  -- where the next item may begin, and behind an item
  pub wanted : D → Place → Nest
  pub whole : D → A → ℕ → Nest
  pub ended : D → Taken
  pub item : (d : D) (x : A) (place : Place) (ps : List (ℕ × Token)) (tokens rest : List Token) → refuses d x ≡ false → wants place ≡ true → Item x tokens rest
      → tokens_of ps ≡ tokens → (start : ℕ) × Steps rules (wanted d place) ps (λ late. Ok (whole d x start)) rest
  pub comma : (d : D) (x : A) (start at : ℕ) → take rules (whole d x start) at (mark Comma) ≡ Ok (wanted (push d x) want)
  pub end : (d : D) (x : A) (start : ℕ) (ps : List (ℕ × Token)) (tokens rest : List Token) → End tokens rest → tokens_of ps ≡ tokens
      → Steps rules (whole d x start) ps (λ late. ended (push d x)) rest

-- items behind another one
behind_taken : (rules : Rules) {A : Type 0} (D : Type 0) (Item : A → List Token → List Token → Type 0) (End : List Token → List Token → Type 0)
    (s : Series rules D Item End) (xs : List A) (d : D) (x : A) (start : ℕ) (ps : List (ℕ × Token)) (tokens rest : List Token)
    → AllMay s.push s.refuses (s.push d x) xs → Behind Item End xs tokens rest → tokens_of ps ≡ tokens
    → Steps rules (s.whole d x start) ps (λ late. s.ended (joined s.push (s.push d x) xs)) rest
behind_taken rules D Item End s [] d x start ps tokens rest may b e = s.end d x start ps tokens rest b e
behind_taken rules D Item End s (y ∷ ys) d x start ps tokens rest may (first, behind, comma, part, more) e =
    steps_on rules (s.whole d x start) ps (λ at. s.wanted (s.push d x) want) (s.ended (joined s.push (s.push d x) (y ∷ ys))) first rest
    (step rules (s.whole d x start) ps (λ at. Ok (s.wanted (s.push d x) want)) (mark Comma) first (s.comma d x start) (e ∙ comma))
    (λ at qs same.
    let item = s.item (s.push d x) y want qs first behind may.0 refl part same in
    steps_on rules (s.wanted (s.push d x) want) qs (λ at. s.whole (s.push d x) y item.0) (s.ended (joined s.push (s.push d x) (y ∷ ys))) behind rest item.1
    (λ late more_ps same_more. behind_taken rules D Item End s ys (s.push d x) y item.0 more_ps behind rest may.1 more same_more))

-- one item or more
pub separated_taken : (rules : Rules) {A : Type 0} (D : Type 0) (Item : A → List Token → List Token → Type 0) (End : List Token → List Token → Type 0)
    (s : Series rules D Item End) (xs : List A) (d : D) (place : Place) (ps : List (ℕ × Token)) (tokens rest : List Token)
    → AllMay s.push s.refuses d xs → wants place ≡ true → Separated Item End xs tokens rest → tokens_of ps ≡ tokens
    → Steps rules (s.wanted d place) ps (λ late. s.ended (joined s.push d xs)) rest
separated_taken rules D Item End s [] d place ps tokens rest may w b e = absurd b
separated_taken rules D Item End s (x ∷ xs) d place ps tokens rest may w (behind, part, more) e =
    let item = s.item d x place ps tokens behind may.0 w part e in
    steps_on rules (s.wanted d place) ps (λ at. s.whole d x item.0) (s.ended (joined s.push d (x ∷ xs))) behind rest item.1
    (λ late more_ps same_more. behind_taken rules D Item End s xs d x item.0 more_ps behind rest may.1 more same_more)
