-- What the laws of the crates below say, as far as the laws of this crate rest on it.
use Rattle.std.specs.Prelude.{◌≡◌, ◌≤◌, ◌<◌, ℕ, ◌+◌, ◌*◌, ◌%◌, ◌^◌, true, false, List, [], length, Some, None, Ok, bytes_eq, option_and_then}
use Rattle.std.specs.List.{AllByRecursion}
use Rattle.host_model.specs.Disk.{Range, in_doubt, DiffersIn}
use Rattle.host_model.specs.Writes.{ranges_of, with_writes}
use Rattle.term_model.specs.TermValue.{TermValue}
use Rattle.table_model.specs.Table.{objects_of}
use Rattle.space_model.specs.Sizes.{unit_size, head_size}
use Rattle.space_model.specs.Runs.{Run, run, front_of_smallest, place}
use Rattle.space_model.specs.Apart.{In, SameMembers, Apart, IsRun}
use Rattle.space_model.specs.Ledger.{exponent, is_too_large, Placed, place_growing, packed_of, with_pending}
use Rattle.space_model.specs.LedgerOrder.{IsFirstPlace}
use Rattle.file_model.specs.declared.block.Packed.{Packed}
use Rattle.file_model.specs.declared.head.Head.{Head}
use Rattle.file_model.specs.declared.head.Located.{Located}
use Rattle.file_model.specs.declared.head.FileState.TheVariants.{Dirty}
use Rattle.file_model.specs.Layout.{page_size, page_of, segment_at, segment_end, whole_segments, gate_at, open_byte, closed_byte, is_open_at}
use Rattle.file_model.specs.LayoutLaws.{EndsInSegment}
use Rattle.file_model.specs.Header.{units_per_segment, current_copy, head_of, located, segments_in, segments_of}
use Rattle.file_model.specs.Block.{Block, one_key}
use Rattle.file_model.specs.View.{Units, units_in, view}
use Rattle.file_model.specs.Fit.{has_no_rejects, is_sound, IsFit}
use Rattle.file_model.specs.Gates.{Gates, AreRead, StandsOpen, NoneMeet, OpenAtTaken, table_with, opened, closed}
use Rattle.file_model.specs.Images.{ImagesAgree}
use Rattle.file_model.specs.GateWrites.{gate_writes, AreWhole, OnlyGatesDiffer}
use Rattle.file_model.specs.Free.{IsFreeIn}
use Rattle.file_model.specs.BodyWrites.{Body, body_writes, HasRoom, MeetsNone, RunsApart, Pairs as BodyPairs, MayWrite, IsPacked, StandsPacked}
use Rattle.file_model.specs.Flush.{IsFlushable, news, with_bodies, with_news, IsBetween, IsFlushed}
use Rattle.file_model.specs.Packing.{payload_of, MayPack, IsBlockOf}
use Rattle.write_cache.specs.declared.pending.Pending.{Pending}
use Rattle.write_cache.specs.PendingState.{in_ledger}
use Rattle.write_cache.specs.Waiting.{Waiting, state_of, with_state, HasDistinctKeys, ledger_of as pending_of}

-- how a run is placed, and that a key that gets a state waits once
pub record PlaceLaws : Type 0 where
  pub is_run : (largest units : ℕ) (held : List Run) (exp unit : ℕ) → front_of_smallest largest units held exp ≡ Some unit
      → IsRun largest units (run unit exp)
  pub apart : (largest units : ℕ) (held : List Run) (exp unit : ℕ) (q : Run) → front_of_smallest largest units held exp ≡ Some unit
      → In q held → Apart (run unit exp) q
  pub first : (segment_units : ℕ) (runs : List Run) (exp segments more : ℕ) (at : Placed)
      → place_growing segment_units runs exp segments more ≡ Some at → IsFirstPlace segment_units runs exp segments more at
  pub none : (segment_units : ℕ) (runs : List Run) (exp segments more : ℕ)
      → place_growing segment_units runs exp segments more ≡ None → place segment_units (segments + more) runs exp ≡ None
  pub distinct : (w : Waiting) (key : List ℕ) (s : Pending) → HasDistinctKeys w → HasDistinctKeys (with_state w key s)
  -- the states of other keys are as they were
  pub others : (w : Waiting) (key other : List ℕ) (s : Pending) → bytes_eq key other ≡ false → state_of (with_state w key s) other ≡ state_of w other

-- a place does not depend on the order of held runs, and the ledger's pending list goes along with the keys that wait
pub record LedgerLaws : Type 0 where
  pub same_place : (largest units : ℕ) (xs ys : List Run) (exp : ℕ) → SameMembers xs ys
      → front_of_smallest largest units xs exp ≡ front_of_smallest largest units ys exp
  pub put : (w : Waiting) (key : List ℕ) (s : Pending) → pending_of (with_state w key s) ≡ with_pending (pending_of w) (in_ledger key s)
  pub block : (w : Waiting) (key : List ℕ) → packed_of (pending_of w) key ≡ option_and_then (λ s. (in_ledger key s).packed) (state_of w key)

-- what stands at a unit is a block of this unit
pub record BlockLaws : Type 0 where
  pub read : (per_segment : ℕ) (h : Head) (image : List ℕ) → AreRead h (units_in per_segment h image)
  pub taken : (h : Head) (units : Units) → AreRead h units → has_no_rejects (view h units) ≡ true → OpenAtTaken units
  pub only : (h : Head) (units : Units) → AreRead h units → OpenAtTaken units → has_no_rejects (view h units) ≡ true
  pub located : (image : List ℕ) (l : Located) → located image ≡ Ok l
      → (head_of image ≡ Ok l.head) × (current_copy (page_of image) ≡ Some l.second) × (l.whole ≡ segments_of l.head image)

-- where blocks have room, and what free runs and written blocks are in a file
pub record FlushLaws : Type 0 where
  pub room : (bytes : ℕ) → head_size + bytes ≤ unit_size * 2 ^ exponent bytes
  pub aligned : (power u exp : ℕ) → 2 ^ exp ≤ 2 ^ power → u % 2 ^ exp ≡ 0 → EndsInSegment (2 ^ power) u (2 ^ exp)
  pub whole : (per_segment u segments : ℕ) (image : List ℕ) → 0 < per_segment → u < per_segment * segments
      → segments ≤ whole_segments per_segment image → segment_end per_segment u ≤ length image
  pub meets_none : (h : Head) (units : Units) (b : Body) → AreRead h units → OpenAtTaken units → IsFreeIn (view h units) b.unit b.exp → MeetsNone units b
  pub shut : (h : Head) (units : Units) (unit exp u : ℕ) → IsFreeIn (view h units) unit exp → unit ≤ u → u < unit + 2 ^ exp → u < units.count
      → units.is_open u ≡ false
  pub packed : (h : Head) (unit : ℕ) (objects : List TermValue) (k : TermValue) (p : Packed) → MayPack objects → IsBlockOf objects p
      → one_key h.kind h.keypos objects ≡ Some k → is_too_large (units_per_segment h) (length (payload_of objects)) ≡ false → unit % 2 ^ p.exp ≡ 0
      → IsPacked (units_per_segment h) h (record { unit = unit; exp = p.exp; bytes = p.block })
      (record { unit = unit; exp = p.exp; key = k; objects = objects })

-- what the writes of a flush leave
pub record WriteLaws : Type 0 where
  pub torn_bodies : (per_segment : ℕ) (h : Head) (bodies : List Body) (old new : List ℕ) → 0 < per_segment → MayWrite per_segment h bodies old
      → DiffersIn (ranges_of (body_writes per_segment bodies)) old new → (located new ≡ located old) × ImagesAgree per_segment h old new
  pub bodies_stand : (per_segment : ℕ) (h : Head) (bodies : List Body) (image : List ℕ) → 0 < per_segment
      → AllByRecursion (HasRoom per_segment image) bodies → BodyPairs RunsApart bodies
      → AllByRecursion (StandsPacked per_segment h (with_writes (body_writes per_segment bodies) image)) bodies
  pub seen : (per_segment : ℕ) (h : Head) (old new : List ℕ) → ImagesAgree per_segment h old new
      → view h (units_in per_segment h new) ≡ view h (units_in per_segment h old)
  pub torn_gates : (per_segment byte : ℕ) (us old new : List ℕ) → 0 < per_segment → page_size ≤ length old → AreWhole per_segment us old
      → DiffersIn (ranges_of (gate_writes per_segment byte us)) old new → OnlyGatesDiffer per_segment us old new
  pub gates_opened : (per_segment : ℕ) (us image : List ℕ) (u : ℕ) → 0 < per_segment → AreWhole per_segment us image
      → is_open_at (with_writes (gate_writes per_segment open_byte us) image) (gate_at per_segment u)
      ≡ opened us (λ w. is_open_at image (gate_at per_segment w)) u
  pub gates_closed : (per_segment : ℕ) (us image : List ℕ) (u : ℕ) → 0 < per_segment → AreWhole per_segment us image
      → is_open_at (with_writes (gate_writes per_segment closed_byte us) image) (gate_at per_segment u)
      ≡ closed us (λ w. is_open_at image (gate_at per_segment w)) u
  pub flushed : (per_segment : ℕ) (h : Head) (bodies : List Body) (olds old : List ℕ) → 0 < per_segment → IsFlushable per_segment h bodies olds old
      → IsFlushed per_segment h bodies olds old
  pub no_block : (h : Head) (units : Units) (gates : Gates) (k : TermValue) → AreRead h units → NoneMeet gates units
      → ((u : ℕ) (b : Block) → StandsOpen gates units u b → b.key ≡ k → ⊥) → objects_of (table_with h units gates) k ≡ []

-- what a stop within a flush leaves
pub record StopLaws : Type 0 where
  pub fit : (h : Head) (image : List ℕ) → head_of image ≡ Ok h → IsFit image
  pub dirty : (h : Head) (image : List ℕ) → h.state ≡ Dirty → is_sound h image ≡ true
  pub unseen : (per_segment : ℕ) (h : Head) (ranges : List Range) (old new : List ℕ) → 0 < per_segment → DiffersIn ranges old new
      → segments_in per_segment h new ≡ segments_in per_segment h old
      → ((k : ℕ) → page_size ≤ k → k < segment_at per_segment (segments_in per_segment h old) → in_doubt ranges k ≡ false)
      → view h (units_in per_segment h new) ≡ view h (units_in per_segment h old)
  pub bodies : (per_segment : ℕ) (h : Head) (bodies : List Body) (olds old : List ℕ) → 0 < per_segment → IsFlushable per_segment h bodies olds old
      → (image : List ℕ) → DiffersIn (ranges_of (body_writes per_segment bodies)) old image → IsBetween per_segment h bodies olds old image
  pub opening : (per_segment : ℕ) (h : Head) (bodies : List Body) (olds old : List ℕ) → 0 < per_segment → IsFlushable per_segment h bodies olds old
      → (image : List ℕ) → DiffersIn (ranges_of (gate_writes per_segment open_byte (news bodies))) (with_bodies per_segment bodies old) image
      → IsBetween per_segment h bodies olds old image
  pub closing : (per_segment : ℕ) (h : Head) (bodies : List Body) (olds old : List ℕ) → 0 < per_segment → IsFlushable per_segment h bodies olds old
      → (image : List ℕ) → DiffersIn (ranges_of (gate_writes per_segment closed_byte olds)) (with_news per_segment bodies old) image
      → IsBetween per_segment h bodies olds old image
