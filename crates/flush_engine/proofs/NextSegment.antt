-- The place of a run in a space that grows, from one number of segments to the next.
use Rattle.std.proofs.Common.{◌≡◌, ◌<◌, ◌≤◌, ◌+◌, ◌-◌, ℕ, zero, suc, List, Option, Some, None, ◌∙◌, ap, sym, subst, refl, arith}
use Rattle.space_model.specs.Runs.{Run, place}
use Rattle.space_model.specs.Ledger.{Placed, or_grown, place_growing}

-- a place is found at once
pub place-found : (su : ℕ) (runs : List Run) (exp segments more unit : ℕ) → place su segments runs exp ≡ Some unit
    → place_growing su runs exp segments more ≡ Some (record { segments = segments; unit = unit })
place-found su runs exp segments zero unit is = ap (λ p. or_grown p segments (λ grown. None)) is
place-found su runs exp segments (suc more) unit is = ap (λ p. or_grown p segments (λ grown. place_growing su runs exp grown more)) is

-- there is none with all segments
pub place-none : (su : ℕ) (runs : List Run) (exp segments : ℕ) → place su segments runs exp ≡ None → place_growing su runs exp segments 0 ≡ None
place-none su runs exp segments is = ap (λ p. or_grown p segments (λ grown. None)) is

-- it is looked for with one more segment
pub place-next : (su : ℕ) (runs : List Run) (exp segments more : ℕ) → place su segments runs exp ≡ None
    → place_growing su runs exp segments (suc more) ≡ place_growing su runs exp (segments + 1) more
place-next su runs exp segments more is = ap (λ p. or_grown p segments (λ grown. place_growing su runs exp grown more)) is

pub place-grown : (su : ℕ) (runs : List Run) (exp segments most : ℕ) → segments < most → place su segments runs exp ≡ None
    → place_growing su runs exp (segments + 1) (most - (segments + 1)) ≡ place_growing su runs exp segments (most - segments)
place-grown su runs exp segments most below is =
    let more : suc (most - (segments + 1)) ≡ most - segments = omega (arith, below) in
    sym (place-next su runs exp segments (most - (segments + 1)) is) ∙ ap (λ m. place_growing su runs exp segments m) more

-- ---- a place that was found

pub record IsPlaceOf (su : ℕ) (runs : List Run) (exp segments most : ℕ) (at : Placed) : Type 0 where
  pub found : place su at.segments runs exp ≡ Some at.unit
  pub least : segments ≤ at.segments
  pub within : at.segments ≤ most

at-once : (su : ℕ) (runs : List Run) (exp segments more unit : ℕ) (at : Placed) → place su segments runs exp ≡ Some unit
    → Some (record { segments = segments; unit = unit }) ≡ Some at → IsPlaceOf su runs exp segments (segments + more) at
at-once su runs exp segments more unit at found is =
    let same : record { segments = segments; unit = unit } ≡ at = cc in
    subst (λ p. IsPlaceOf su runs exp segments (segments + more) p) same
    (record { found = found; least = omega arith; within = omega arith })

pub place-of : (su : ℕ) (runs : List Run) (exp segments more : ℕ) (at : Placed) (here : Option ℕ) → place su segments runs exp ≡ here
    → place_growing su runs exp segments more ≡ Some at → IsPlaceOf su runs exp segments (segments + more) at
place-of su runs exp segments more at (Some unit) here is =
    at-once su runs exp segments more unit at here (sym (place-found su runs exp segments more unit here) ∙ is)
place-of su runs exp segments zero at None here is =
    let clash : None ≡ Some at = sym (place-none su runs exp segments here) ∙ is in
    cc
place-of su runs exp segments (suc more) at None here is =
    let later = place-of su runs exp (segments + 1) more at (place su (segments + 1) runs exp) refl
    (sym (place-next su runs exp segments more here) ∙ is) in
    record { found = later.found; least = omega (arith, later.least); within = omega (arith, later.within) }
