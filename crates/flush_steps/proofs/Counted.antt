-- How many blocks a cache has, at most.
use Rattle.std.proofs.Common.{◌≤◌, ◌+◌, List, [], ◌∷◌, length, Option, Some, None, arith}
use Rattle.std.specs.List.{filter_map, cons_option}
use Rattle.std.proofs.lemmas.List.{length-map}
use Rattle.file_model.specs.declared.entry.Entry.{Entry}
use Rattle.write_cache.specs.Waiting.{Waiting}
use Rattle.book_model.specs.Book.{olds_of}
use Rattle.book_model.specs.Flushing.{body_of, bodies_of, old_units}

one_at_most : {A : Type 0} (o : Option A) (xs : List A) → length (cons_option o xs) ≤ length xs + 1
one_at_most None xs = omega arith
one_at_most (Some a) xs = omega arith

picked_at_most : {A B : Type 0} (pick : A → Option B) (xs : List A) → length (filter_map pick xs) ≤ length xs
picked_at_most pick [] = omega arith
picked_at_most pick (x ∷ xs) = omega (arith, one_at_most (pick x) (filter_map pick xs), picked_at_most pick xs)

pub bodies_at_most : (w : Waiting) → length (bodies_of w) ≤ length w
bodies_at_most w = picked_at_most (λ e. body_of e.1) w

pub olds_at_most : (w : Waiting) → length (old_units w) ≤ length w
olds_at_most w = omega (arith, length-map (olds_of w) (λ (e : Entry). e.unit), picked_at_most (λ e. e.1.old) w)
