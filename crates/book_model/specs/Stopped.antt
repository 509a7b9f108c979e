-- What a stop within a flush may leave of a file: first while segments are added and the header is changed, then while the
-- new blocks are written, their gates are opened and those of the blocks that go are closed. This project's own.
use Rattle.std.specs.Prelude.{◌≡◌, ◌≤◌, ◌<◌, ◌⊎◌, ℕ, ◌*◌, false, List, [], length, slice_get, Some, None, Ok}
use Rattle.host_model.specs.Disk.{DiffersIn}
use Rattle.host_model.specs.Writes.{ranges_of}
use Rattle.term_model.specs.TermValue.{TermValue}
use Rattle.table_model.specs.Table.{Table, objects_of}
use Rattle.etf_model.specs.Canonical.{spelled}
use Rattle.space_model.specs.Apart.{In}
use Rattle.file_model.specs.declared.block.Packed.{Packed}
use Rattle.file_model.specs.declared.head.Head.{Head}
use Rattle.file_model.specs.declared.head.Located.{Located}
use Rattle.file_model.specs.declared.head.FileState.TheVariants.{Dirty}
use Rattle.file_model.specs.Layout.{page_size, segment_at, gate_at, open_byte, closed_byte, is_open_at}
use Rattle.file_model.specs.Header.{units_per_segment, head_of, located}
use Rattle.file_model.specs.Fit.{IsFit, IsSound}
use Rattle.file_model.specs.BodyWrites.{Body, body_writes}
use Rattle.file_model.specs.GateWrites.{gate_writes}
use Rattle.file_model.specs.Flush.{news, with_bodies, with_news}
use Rattle.write_cache.specs.declared.pending.Pending.{Pending}
use Rattle.write_cache.specs.Waiting.{state_of}
use Rattle.book_model.specs.Book.{Book}
use Rattle.book_model.specs.Planning.{IsBlockFor}
use Rattle.book_model.specs.Flushing.{table_with_head}

-- ---- segments are added, and the header is changed

-- a header that is dirty, with so many segments
abbrev pub dirtied : Head → ℕ → Head
dirtied h segments = record h { state = Dirty; segments = segments; index = None }

-- the bytes of so many segments are as before, and the file is no shorter
pub record KeepsSegments (per_segment segments : ℕ) (old now : List ℕ) : Type 0 where
  pub bytes : (k : ℕ) → page_size ≤ k → k < segment_at per_segment segments → slice_get now k ≡ slice_get old k
  pub no_shorter : length old ≤ length now

-- The segments from one number to another lie wholly in the file, and all their gates are closed.
pub record AreShut (per_segment from to : ℕ) (now : List ℕ) : Type 0 where
  pub whole : segment_at per_segment to ≤ length now
  pub gates : (u : ℕ) → per_segment * from ≤ u → u < per_segment * to → is_open_at now (gate_at per_segment u) ≡ false

-- the header is dirty and counts added segments, which are whole with closed gates
pub record IsDirtied (h : Head) (segments : ℕ) (now : List ℕ) : Type 0 where
  pub header : head_of now ≡ Ok (dirtied h segments)
  pub shut : AreShut (units_per_segment h) h.segments segments now

-- At any moment of this the header is the old one, or all added segments are there; the segments of the old header are as
-- before.
pub record IsPreparing (h : Head) (segments : ℕ) (old now : List ℕ) : Type 0 where
  pub header : (head_of now ≡ Ok h) ⊎ IsDirtied h segments now
  pub keeps : KeepsSegments (units_per_segment h) h.segments old now

-- and at its end the new header is where it is told
pub record IsPrepared (h : Head) (segments : ℕ) (place : Located) (old now : List ℕ) : Type 0 where
  pub place_is : located now ≡ Ok place
  pub head : place.head ≡ dirtied h segments
  pub keeps : KeepsSegments (units_per_segment h) h.segments old now
  pub shut : AreShut (units_per_segment h) h.segments segments now

-- ---- blocks are written, their gates are opened, and those of the blocks that go are closed

-- At any moment of this the bytes of one of the three steps are in doubt, over the file as the steps before it made it.
abbrev pub IsWriting : ℕ → List Body → List ℕ → (old now : List ℕ) → Type 0
IsWriting per_segment bodies olds old now =
    DiffersIn (ranges_of (body_writes per_segment bodies)) old now
    ⊎ (DiffersIn (ranges_of (gate_writes per_segment open_byte (news bodies))) (with_bodies per_segment bodies old) now
    ⊎ DiffersIn (ranges_of (gate_writes per_segment closed_byte olds)) (with_news per_segment bodies old) now)

-- ---- what each key has then

-- Each key that waits has the objects that it had or those of its new block, none where it has no block. The others have
-- what they had.
pub record HaveOldOrNew (b : Book) (old now : Table) : Type 0 where
  pub comes : (e : List ℕ × Pending) (p : Packed) → In e b.cache → e.1.block ≡ Some p → (f : IsBlockFor b.place.head e.0 p)
      → (objects_of now f.term ≡ objects_of old f.term) ⊎ (objects_of now f.term ≡ f.objects)
  pub goes : (e : List ℕ × Pending) (k : TermValue) → In e b.cache → e.1.block ≡ None → spelled k ≡ e.0
      → (objects_of now k ≡ objects_of old k) ⊎ (objects_of now k ≡ [])
  pub stays : (k : TermValue) → state_of b.cache (spelled k) ≡ None → objects_of now k ≡ objects_of old k

-- What a stop within a flush of this book may leave of its file: an image of the same kind and key position, which is fit,
-- and sound where the file was, and in which each key has its old objects or its new ones.
pub record IsStopped (b : Book) (old now : List ℕ) : Type 0 where
  pub head : Head
  pub read : head_of now ≡ Ok head
  pub kind : head.kind ≡ b.place.head.kind
  pub keypos : head.keypos ≡ b.place.head.keypos
  pub fit : IsFit now
  pub sound : IsSound old → IsSound now
  pub table : HaveOldOrNew b (table_with_head b.place.head old) (table_with_head head now)
