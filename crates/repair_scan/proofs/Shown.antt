-- The gates and units of a segment in the bytes of an image.
use Rattle.std.proofs.Common.{◌≡◌, ◌≤◌, ◌<◌, ◌+◌, ◌-◌, ◌*◌, ◌/◌, ◌%◌, ◌==◌, ℕ, List, take, drop, slice_index, slice_range, ap, sym, ◌∙◌, arith}
use Rattle.std.proofs.lemmas.List.{drop-take, drop-drop, get_or-take, get_or-drop}
use Rattle.space_model.specs.Sizes.{unit_size, segment_units}
use Rattle.file_model.specs.declared.head.Head.{Head}
use Rattle.file_model.specs.Layout.{segment_at, gate_at, unit_at, segment_end, open_byte, unit_bytes}
use Rattle.file_model.specs.Block.{standing}
use Rattle.repair_scan.specs.Progress.{units_with, ShowsSegment}

-- ---- the places of a unit

record Places (s i : ℕ) : Type 0 where
  segment : (segment_units * s + i) / segment_units ≡ s
  place : (segment_units * s + i) % segment_units ≡ i

places : (s i : ℕ) → i < segment_units → Places s i
places s i l = record { segment = omega arith; place = omega arith }

gate_place : (s i : ℕ) → i < segment_units → gate_at segment_units (segment_units * s + i) ≡ segment_at segment_units s + i
gate_place s i l = let p = places s i l in cc (ap (λ x. segment_at segment_units x) p.segment, p.place)

pub unit_place : (s i : ℕ) → i < segment_units → unit_at segment_units (segment_units * s + i) ≡ segment_at segment_units s + segment_units + unit_size * i
unit_place s i l = let p = places s i l in cc (ap (λ x. segment_at segment_units x) p.segment, p.place)

pub end_place : (s i : ℕ) → i < segment_units → segment_end segment_units (segment_units * s + i) ≡ segment_at segment_units (s + 1)
end_place s i l = let p = places s i l in ap (λ x. segment_at segment_units (x + 1)) p.segment

-- ---- parts of parts

rest_of_part : (xs : List ℕ) (a b k : ℕ) → a + k ≤ b → drop k (slice_range xs a b) ≡ slice_range xs (a + k) b
rest_of_part xs a b k l =
    let size : b - a ≡ k + (b - (a + k)) = omega arith in
    ap (λ n. drop k (take n (drop a xs))) size ∙ drop-take k (b - (a + k)) (drop a xs) ∙ ap (take (b - (a + k))) (drop-drop k a xs)

index_in_part : (xs : List ℕ) (a b i : ℕ) → a + i < b → slice_index (slice_range xs a b) i ≡ slice_index xs (a + i)
index_in_part xs a b i l = get_or-take (b - a) (drop a xs) i 0 (omega arith) ∙ get_or-drop a xs i 0

-- ---- a segment

module _ (f : List ℕ) (h : Head) (s segments : ℕ) (inside : s < segments) (gates : List ℕ)
    (given : gates ≡ slice_range f (segment_at segment_units s) (segment_at segment_units s + segment_units)) where
  gate : (i : ℕ) → i < segment_units → (units_with h segments f).is_open (segment_units * s + i) ≡ (slice_index gates i == open_byte)
  gate i l =
      ap (λ at. slice_index f at == open_byte) (gate_place s i l)
      ∙ ap (λ x. x == open_byte) (sym (index_in_part f (segment_at segment_units s) (segment_at segment_units s + segment_units) i (omega arith)))
      ∙ ap (λ g. slice_index g i == open_byte) (sym given)

  pub all_shut : (units : List ℕ) → ((i : ℕ) → i < segment_units → slice_index gates i ≡ open_byte → ⊥)
      → ShowsSegment (units_with h segments f) h s gates units
  all_shut units shut = record {
    inside = omega arith;
    gate_is = gate;
    behind = λ i l opened. absurd (shut i l opened);
  }

  unit_part : (units : List ℕ) → units ≡ slice_range f (segment_at segment_units s + segment_units) (segment_at segment_units (s + 1))
      → (i : ℕ) → i < segment_units → unit_bytes segment_units f (segment_units * s + i) ≡ drop (unit_size * i) units
  unit_part units read i l =
      ap (λ at. slice_range f at (segment_end segment_units (segment_units * s + i))) (unit_place s i l)
      ∙ ap (λ end. slice_range f (segment_at segment_units s + segment_units + unit_size * i) end) (end_place s i l)
      ∙ sym (rest_of_part f (segment_at segment_units s + segment_units) (segment_at segment_units (s + 1)) (unit_size * i) (omega arith))
      ∙ ap (drop (unit_size * i)) (sym read)

  pub all_read : (units : List ℕ) → units ≡ slice_range f (segment_at segment_units s + segment_units) (segment_at segment_units (s + 1))
      → ShowsSegment (units_with h segments f) h s gates units
  all_read units read = record {
    inside = omega arith;
    gate_is = gate;
    behind = λ i l opened. ap (standing segment_units h.kind h.keypos (segment_units * s + i)) (unit_part units read i l);
  }
