-- Lists that agree at a place.
use Rattle.std.proofs.Common.{◌≡◌, ◌∙◌, ℕ, List, slice_get, slice_index, sym, ap}
use Rattle.std.specs.Prelude.{unwrap_or}
use Rattle.std.proofs.lemmas.Option.{unwrap_or-slice_get}

pub same_index : (xs ys : List ℕ) (k : ℕ) → slice_get xs k ≡ slice_get ys k → slice_index xs k ≡ slice_index ys k
same_index xs ys k e = sym (unwrap_or-slice_get xs k 0) ∙ ap (λ o. unwrap_or o 0) e ∙ unwrap_or-slice_get ys k 0
