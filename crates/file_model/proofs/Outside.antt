-- What lies outside the segments that count is not seen, and a header depends on its page alone.
use Rattle.std.proofs.Common.{◌≡◌, ◌≤◌, ◌<◌, ℕ, ◌*◌, ◌/◌, false, ◌==◌, List, length, ap, arith}
use Rattle.std.proofs.lemmas.Bool.{le-ltb}
use Rattle.host_model.specs.Disk.{Range, in_doubt, DiffersIn}
use Rattle.host_model.specs.Torn.{outside_ranges}
use Rattle.file_model.specs.declared.head.Head.{Head}
use Rattle.file_model.specs.Layout.{page_size, segment_at, gate_at, unit_at, segment_end, open_byte, page_of, whole_segments}
use Rattle.file_model.specs.LayoutLaws.{in_segment, segment_ends, segment_after, segment_below}
use Rattle.file_model.specs.Header.{segments_in, head_of_page, head_of}
use Rattle.file_model.specs.Block.{standing}
use Rattle.file_model.specs.View.{units_in, view}
use Rattle.file_model.proofs.Seen.{view_same}
use Rattle.file_model.proofs.GateWrites.{same_index, unit_inside}

-- a unit that counts ends below the end of the segments that count
ends_below : (n : ℕ) (h : Head) (image : List ℕ) (u : ℕ) → 0 < n → u < (units_in n h image).count
    → segment_end n u ≤ segment_at n (segments_in n h image)
ends_below n h image u some l =
    let below = segment_below n u (segments_in n h image) some l in
    let s = segment_after n (u / n) (segments_in n h image) below in
    let e = segment_ends n u in
    omega arith

pub outside_same : (n : ℕ) (h : Head) (ranges : List Range) (old new : List ℕ) → 0 < n → DiffersIn ranges old new
    → segments_in n h new ≡ segments_in n h old
    → ((k : ℕ) → page_size ≤ k → k < segment_at n (segments_in n h old) → in_doubt ranges k ≡ false)
    → view h (units_in n h new) ≡ view h (units_in n h old)
outside_same n h ranges old new some d count free =
    view_same h (units_in n h old) (units_in n h new) (record {
      count = ap (λ s. n * s) count;
      gates = λ u l.
          let i = in_segment n u some in
          let e = ends_below n h old u some l in
          ap (λ x. x == open_byte) (same_index new old (gate_at n u) (d.outside (gate_at n u) (free (gate_at n u) i.gate_behind_page
          (omega (arith, i.gate_below, i.unit_from, i.unit_ends, e)))));
      behind = λ u l o.
          let i = in_segment n u some in
          let e = ends_below n h old u some l in
          ap (standing n h.kind h.keypos u) (outside_ranges ranges (unit_at n u) (segment_end n u) old new d (unit_inside n h old u some l)
          (λ k a b. free k (omega (arith, i.unit_behind_page)) (omega (arith, e))));
    })

-- segments that are there stay there where a file grows
pub counted_still : (n : ℕ) (h : Head) (old new : List ℕ) → h.segments ≤ whole_segments n old → h.segments ≤ whole_segments n new
    → segments_in n h new ≡ segments_in n h old
counted_still n h old new a b = omega arith

pub head_by_page : (old new : List ℕ) → page_size ≤ length old → page_size ≤ length new → page_of new ≡ page_of old → head_of new ≡ head_of old
unfolding head_of
head_by_page old new a b page = rw (le-ltb (length new) page_size b, le-ltb (length old) page_size a) (ap head_of_page page)
