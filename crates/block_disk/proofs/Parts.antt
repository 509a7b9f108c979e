-- Parts of a unit's bytes are parts of the file.
use Rattle.std.proofs.Common.{◌≡◌, ◌≤◌, ◌+◌, ◌-◌, ◌∙◌, ℕ, List, take, drop, slice_range, sym, ap, arith}
use Rattle.std.proofs.lemmas.List.{drop-take, drop-drop, take-take}
use Rattle.file_model.specs.Layout.{unit_at, segment_end, unit_bytes}

part_of_part : (xs : List ℕ) (i j k n : ℕ) → i + k + n ≤ j → take n (drop k (slice_range xs i j)) ≡ slice_range xs (i + k) (i + k + n)
part_of_part xs i j k n l =
    let m : ℕ = j - (i + k) in
    let size : j - i ≡ k + m = omega arith in
    let whole : n ≡ i + k + n - (i + k) = omega arith in
    ap (λ e. take n (drop k (take e (drop i xs)))) size ∙ ap (take n) (drop-take k m (drop i xs)) ∙ take-take n m (drop k (drop i xs)) (omega arith)
    ∙ ap (take n) (drop-drop k i xs) ∙ ap (λ e. take e (drop (i + k) xs)) whole

-- the n bytes from the k-th of a unit on, which end in its segment
pub part_of_unit : (per_segment u k n : ℕ) (image : List ℕ) → unit_at per_segment u + k + n ≤ segment_end per_segment u
    → slice_range image (unit_at per_segment u + k) (unit_at per_segment u + k + n) ≡ take n (drop k (unit_bytes per_segment image u))
part_of_unit per_segment u k n image l = sym (part_of_part image (unit_at per_segment u) (segment_end per_segment u) k n l)

-- its first n bytes
pub front_of_unit : (per_segment u n : ℕ) (image : List ℕ) → unit_at per_segment u + n ≤ segment_end per_segment u
    → slice_range image (unit_at per_segment u) (unit_at per_segment u + n) ≡ take n (unit_bytes per_segment image u)
front_of_unit per_segment u n image l =
    let at = unit_at per_segment u in
    let whole : at + n - at ≡ n = omega arith in
    ap (λ e. take e (drop at image)) whole ∙ sym (take-take n (segment_end per_segment u - at) (drop at image) (omega arith))
