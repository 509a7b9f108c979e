-- What a flush writes for each key that waits, by its place in the order of first touch. This project's own.
use Rattle.std.specs.Prelude.{◌≡◌, List, [], ◌∷◌, map, Option, Some, None, option_map}
use Rattle.std.specs.List.{filter_map, cons_option}
use Rattle.std.proofs.Common.{ap, refl, ◌∙◌}
use Rattle.std.proofs.lemmas.Simd.{map-map}
use Rattle.space_model.specs.Sizes.{segment_units}
use Rattle.host_model.specs.Writes.{Write}
use Rattle.file_model.specs.declared.entry.Entry.{Entry}
use Rattle.file_model.specs.Layout.{open_byte, closed_byte}
use Rattle.file_model.specs.BodyWrites.{Body, body_write, body_writes}
use Rattle.file_model.specs.GateWrites.{gate_write, gate_writes}
use Rattle.file_model.specs.Flush.{news}
use Rattle.write_cache.specs.declared.pending.Pending.{Pending}
use Rattle.write_cache.specs.Waiting.{Waiting, states_of}
use Rattle.book_model.specs.Book.{olds_of}
use Rattle.book_model.specs.Flushing.{body_of, bodies_of, old_units}
use Rattle.flush_steps.specs.Sparse.{some_of}

-- the body of the block, if there is one
abbrev pub body_place : Pending → Option Write
body_place s = option_map (body_write segment_units) (body_of s)

-- the gate of its unit, as one that is open
abbrev pub new_gate_place : Pending → Option Write
new_gate_place s = option_map (λ b. gate_write segment_units open_byte b.unit) (body_of s)

-- the gate of the block that stands for the key, if there is one, as one that is closed
abbrev pub old_gate_place : Pending → Option Write
old_gate_place s = option_map (λ o. gate_write segment_units closed_byte o.unit) s.old

-- ---- lemmas: those that are there, in order

cons_map : {A : Type 0} (make : A → Write) (o : Option A) (xs : List A) (ys : List Write) → map make xs ≡ ys
    → map make (cons_option o xs) ≡ cons_option (option_map make o) ys
cons_map make None xs ys e = e
cons_map make (Some a) xs ys e = ap (λ ws. make a ∷ ws) e

gathered : {A : Type 0} (make : A → Write) (pick : Pending → Option A) (w : Waiting)
    → map make (filter_map (λ e. pick e.1) w) ≡ some_of (map (λ s. option_map make (pick s)) (states_of w))
gathered make pick [] = refl
gathered make pick (e ∷ w) = cons_map make (pick e.1) _ _ (gathered make pick w)

pub bodies_gathered : (w : Waiting) → body_writes segment_units (bodies_of w) ≡ some_of (map body_place (states_of w))
bodies_gathered w = gathered (body_write segment_units) body_of w

pub new_gates_gathered : (w : Waiting)
    → gate_writes segment_units open_byte (news (bodies_of w)) ≡ some_of (map new_gate_place (states_of w))
new_gates_gathered w =
    map-map (gate_write segment_units open_byte) (λ (b : Body). b.unit) (bodies_of w)
    ∙ gathered (λ b. gate_write segment_units open_byte b.unit) body_of w

pub old_gates_gathered : (w : Waiting) → gate_writes segment_units closed_byte (old_units w) ≡ some_of (map old_gate_place (states_of w))
old_gates_gathered w =
    map-map (gate_write segment_units closed_byte) (λ (o : Entry). o.unit) (olds_of w)
    ∙ gathered (λ o. gate_write segment_units closed_byte o.unit) (λ s. s.old) w
