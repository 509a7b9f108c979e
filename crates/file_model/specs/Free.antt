-- Runs of units that are free in a file. This project's own.
use Rattle.std.specs.Prelude.{◌≤◌, ◌<◌, ◌⊎◌, ℕ, ◌+◌, ◌^◌}
use Rattle.std.specs.List.{AllByRecursion}
use Rattle.file_model.specs.View.{View}
use Rattle.file_model.specs.Taken.{taken}

-- The run of 2 ^ exp units from one on meets no taken block and has no open gate.
pub record IsFreeIn (v : View) (unit exp : ℕ) : Type 0 where
  pub apart : AllByRecursion (λ b. (b.unit + 2 ^ b.exp ≤ unit) ⊎ (unit + 2 ^ exp ≤ b.unit)) (taken v)
  pub shut : AllByRecursion (λ o. (o.unit < unit) ⊎ (unit + 2 ^ exp ≤ o.unit)) v.open_units
