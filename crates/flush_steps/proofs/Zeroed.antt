-- Segments of zeros, one behind the other.
use Rattle.std.proofs.Common.{◌≡◌, ◌≤◌, ◌<◌, ◌+◌, ◌-◌, ◌*◌, ◌==◌, ◌∙◌, ℕ, List, [], ◌∷◌, length, get_or}
use Rattle.std.proofs.Common.{ap, arith, ⊎_elim}
use Rattle.std.proofs.lemmas.Bool.{cases_lt, or_parts}
use Rattle.std.proofs.lemmas.List.{length-replicate, get_or-replicate}
use Rattle.space_model.specs.Sizes.{segment_units}
use Rattle.host_model.specs.Disk.{Range, range, DiffersIn, written_at}
use Rattle.host_model.specs.Torn.{is_in-below, is_in-above, is_in-false, length-written_at, get_or-written_below, get_or-written_in}
use Rattle.host_model.specs.Host.{Left, Shown, TearsIn, Reached}
use Rattle.host_model.specs.Leaves.{leaves_then, leaves_weaker}
use Rattle.host_model.specs.Tearing.{Tearing, IsWithin, absorbed, changes_then}
use Rattle.file_model.specs.Layout.{segment_at, segment_size, gate_at, open_byte}
use Rattle.block_disk.specs.Zeroed.{zeros}
use Rattle.book_model.specs.Stopped.{AreShut}
use Rattle.flush_steps.specs.Added.{added}

-- ---- zeros

length-zeros : (n : ℕ) → length (zeros n) ≡ n
unfolding zeros
length-zeros n = length-replicate n 0

get_or-zeros : (n i : ℕ) → i < n → get_or (zeros n) i 0 ≡ 0
unfolding zeros
get_or-zeros n i l = get_or-replicate n i 0 0 l

-- ---- one range more is torn

module _ (r : Range) (ranges : List Range) (old mid new : Shown) (within : IsWithin r ranges) (before : Tearing ranges old mid)
    (more : Tearing (r ∷ []) mid new) where
  torn : (c : Left) → Reached (TearsIn (r ∷ [])) mid.may_leave c → Reached (TearsIn ranges) old.may_leave c
  torn c x =
      let first = before.left_now x.start x.was_left in record {
        start = first.start;
        was_left = first.was_left;
        done = record {
          image = record {
            differs = absorbed r ranges _ _ _ within first.done.image.differs x.done.image.differs;
            bytes = x.done.image.bytes;
          };
          output = x.done.output ∙ first.done.output;
        };
      }

  pub tearing_then : Tearing ranges old new
  tearing_then =
      let P = Reached (TearsIn ranges) old.may_leave in
      record {
        leaves = leaves_then old mid new P before.leaves (leaves_weaker mid new (Reached (TearsIn (r ∷ [])) mid.may_leave) P torn more.leaves);
        left_now = λ c left. torn c (more.left_now c left);
        file = changes_then (DiffersIn ranges) (DiffersIn (r ∷ [])) (DiffersIn ranges) old.file mid.file new.file
            (λ x y z p q. absorbed r ranges x y z within p q) before.file more.file;
        said = more.said ∙ before.said;
        reads = more.reads ∙ before.reads;
        never_falls = omega (arith, before.never_falls, more.never_falls);
        out_faults = more.out_faults ∙ before.out_faults;
      }

-- ---- one segment more

-- the range of a segment is within that of them all
pub segment_within : (from to s : ℕ) → from ≤ s → s < to
    → IsWithin (range (segment_at segment_units s) (segment_size segment_units)) (added segment_units from to)
segment_within from to s a b = record {
  outside = λ k none.
      ⊎_elim
      (λ below. is_in-below _ k (omega arith))
      (λ above. is_in-above _ k (omega arith))
      (is_in-false (range (segment_at segment_units from) (segment_size segment_units * (to - from))) k (or_parts _ _ none).0);
  reached = λ n. omega arith;
}

-- so is the closedness of the gates
pub shut_more : (from s : ℕ) (f : List ℕ) → AreShut segment_units from s f
    → AreShut segment_units from (s + 1) (written_at (segment_at segment_units s) (zeros (segment_size segment_units)) f)
shut_more from s f shut =
    let at = segment_at segment_units s in
    let size = length-zeros (segment_size segment_units) in
    let len = length-written_at at (zeros (segment_size segment_units)) f shut.whole in
    record {
      whole = omega (arith, size, len);
      gates = λ u a b. ⊎_elim
          (λ before.
          ap (λ byte. byte == open_byte)
          (get_or-written_below at (zeros (segment_size segment_units)) f (gate_at segment_units u) shut.whole (omega arith))
          ∙ shut.gates u a before)
          (λ here.
          ap (λ byte. byte == open_byte)
          (get_or-written_in at (zeros (segment_size segment_units)) f (gate_at segment_units u) shut.whole (omega arith) (omega (arith, size))
          ∙ get_or-zeros (segment_size segment_units) (gate_at segment_units u - at) (omega arith)))
          (cases_lt u (segment_units * s));
    }
