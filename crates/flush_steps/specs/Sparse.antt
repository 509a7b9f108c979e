-- Writes at places of which some have none. This project's own.
use Rattle.std.specs.Prelude.{◌≤◌, ℕ, List, length, Option}
use Rattle.std.specs.List.{filter_map, AllByRecursion}
use Rattle.host_model.specs.Writes.{Write}

-- those that are there, in order
abbrev pub some_of : List (Option Write) → List Write
some_of places = filter_map (λ o. o) places

-- each write begins inside the file, or at its end
abbrev pub BeginIn : List Write → List ℕ → Type 0
BeginIn writes file = AllByRecursion (λ w. w.at ≤ length file) writes
