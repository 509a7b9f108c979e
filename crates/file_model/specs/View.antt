-- What is seen of a file: its header, and in ascending order its open units with what stands at each. This project's own.
use Rattle.std.specs.Prelude.{ℕ, zero, suc, ◌*◌, Bool, true, false, List, [], ◌∷◌}
use Rattle.file_model.specs.declared.head.Head.{Head}
use Rattle.file_model.specs.Layout.{gate_at, is_open_at}
use Rattle.file_model.specs.Header.{units_per_segment, segments_in}
use Rattle.file_model.specs.Block.{Standing, stands_at}

-- the units in the segments that count: which of their gates are open, and what stands at each, behind any gate
pub record Units : Type 0 where
  pub count : ℕ
  pub is_open : ℕ → Bool
  pub stands : ℕ → Standing

pub record OpenUnit : Type 0 where
  pub unit : ℕ
  pub stands : Standing

pub record View : Type 0 where
  pub head : Head
  pub open_units : List OpenUnit

-- a unit in front of others, if it is open
abbrev pub with_unit : Bool → (ℕ → Standing) → ℕ → List OpenUnit → List OpenUnit
with_unit true stands u others = record { unit = u; stands = stands u } ∷ others
with_unit false stands u others = others

-- of so many units from one on, those that are open
abbrev pub open_from : (ℕ → Bool) → (ℕ → Standing) → ℕ → ℕ → List OpenUnit
open_from is_open stands zero u = []
open_from is_open stands (suc n) u = with_unit (is_open u) stands u (open_from is_open stands n (suc u))

abbrev pub view : Head → Units → View
view h units = record { head = h; open_units = open_from units.is_open units.stands units.count 0 }

-- ---- of an image, by a header

-- where segments have so many units
abbrev pub units_in : ℕ → Head → List ℕ → Units
units_in per_segment h image = record {
  count = per_segment * segments_in per_segment h image;
  is_open = λ u. is_open_at image (gate_at per_segment u);
  stands = λ u. stands_at per_segment h.kind h.keypos image u;
}

abbrev pub units_of : Head → List ℕ → Units
units_of h image = units_in (units_per_segment h) h image

abbrev pub view_of : Head → List ℕ → View
view_of h image = view h (units_of h image)
