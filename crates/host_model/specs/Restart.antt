-- The one pair of a moment that a restart takes. All of it is this project's own.
use Rattle.std.specs.Prelude.{ℕ, ◌/◌, ◌%◌, ◌^◌, ◌==◌, ◌++◌, nat_lt, List, [], ◌∷◌, map, length, slice_index, Option, Some, None, if◌then◌else◌}
use Rattle.std.specs.List.{range_with_len}
use Rattle.host_model.specs.Disk.{Range, in_doubt, furthest}
use Rattle.host_model.specs.Host.{Left}
use Rattle.host_model.specs.Calls.{Call, file_after, said_after, synced_after, unsynced, ranges_of}
use Rattle.host_model.specs.declared.restart.Pick.{Pick}
use Rattle.host_model.specs.declared.restart.Pick.TheVariants.{Old, New, Fill, Mix}

-- the calls that were made at a stop, and the one that goes on
pub record Moment : Type 0 where
  pub made : List Call
  pub running : Option Call

-- within the call that follows the first n, or after all of them
abbrev pub moment : ℕ → List Call → Moment
moment n [] = record { made = []; running = None }
moment n (call ∷ calls) =
    if nat_lt (length calls) n then record { made = call ∷ calls; running = None } else
    (if n == length calls then record { made = calls; running = Some call } else moment n calls)

-- the calls with the one that goes on
abbrev pub onto : Option Call → List Call → List Call
onto None calls = calls
onto (Some call) calls = call ∷ calls

-- What a byte in doubt is, at place k, of the old one and the new one. `Mix` takes the new one where bit k mod 64 of
-- its number is 1.
abbrev pub byte_picked : Pick → ℕ → ℕ → ℕ → ℕ
byte_picked Old k old new = old
byte_picked New k old new = new
byte_picked (Fill byte) k old new = byte
byte_picked (Mix number) k old new = if (number / 2 ^ (k % 64)) % 2 == 1 then new else old

-- the least length or the greatest
abbrev pub length_picked : Pick → ℕ → ℕ → ℕ
length_picked Old least greatest = least
length_picked New least greatest = greatest
length_picked (Fill byte) least greatest = greatest
length_picked (Mix number) least greatest = greatest

-- The image: outside the ranges as last synced, inside as picked. An old byte past the old end is 0.
abbrev pub picked_image : Pick → List Range → List ℕ → List ℕ → List ℕ
picked_image pick ranges synced file =
    map (λ k. if in_doubt ranges k then byte_picked pick k (slice_index synced k) (slice_index file k) else slice_index synced k)
    (range_with_len 0 (length_picked pick (length synced) (furthest (length synced) ranges)))

abbrev pub image_at : Pick → List ℕ → Moment → List ℕ
image_at pick first m =
    picked_image pick (ranges_of m.running ++ unsynced m.made) (synced_after first m.made) (file_after first (onto m.running m.made))

-- the output: of a piece that goes on, nothing with `Old` and else the whole
abbrev pub output_at : Pick → List ℕ → Moment → List ℕ
output_at Old first m = said_after first m.made
output_at New first m = said_after first (onto m.running m.made)
output_at (Fill byte) first m = said_after first (onto m.running m.made)
output_at (Mix number) first m = said_after first (onto m.running m.made)

abbrev pub pair_at : Pick → Left → Moment → Left
pair_at pick origin m = record { image = image_at pick origin.image m; output = output_at pick origin.output m }
