-- What the laws of the crates below say of a flush.
use Rattle.std.specs.Prelude.{◌≡◌, ℕ, List, []}
use Rattle.table_model.specs.Table.{Table}
use Rattle.space_model.specs.Sizes.{segment_units}
use Rattle.space_model.specs.Ledger.{Ledger, flush}
use Rattle.file_model.specs.declared.head.Located.{Located}
use Rattle.file_model.specs.declared.head.FileState.TheVariants.{Dirty}
use Rattle.file_model.specs.Flush.{news}
use Rattle.file_model.specs.GateWrites.{AreWhole}
use Rattle.book_model.specs.Book.{Book}
use Rattle.book_model.specs.OfFile.{IsOf, Follows, placed_at}
use Rattle.book_model.specs.LedgerOfFile.{HasLedger, all_filed}
use Rattle.book_model.specs.Flushing.{bodies_of, old_units, settled, flushed_file, table_with_head, HaveNew}
use Rattle.book_model.specs.Stopped.{IsPreparing, IsPrepared, IsWriting, IsStopped}

-- a book that is that of a file with all segments of its space, and a dirty header
pub record IsReady (file : List ℕ) (b : Book) : Type 0 where
  pub of_file : IsOf file b
  pub segments : b.place.head.segments ≡ b.space.segments
  pub dirty : b.place.head.state ≡ Dirty

pub record StopLaws : Type 0 where
  pub follows : (file : List ℕ) (b : Book) → IsOf file b → Follows file b
  pub as_it_is : (file : List ℕ) (b : Book) → IsOf file b → IsStopped b file file
  -- the file is prepared
  pub preparing : (old now : List ℕ) (b : Book) → IsOf old b → IsPreparing b.place.head b.space.segments old now → IsStopped b old now
  pub prepared : (old now : List ℕ) (b : Book) (place : Located) → IsOf old b → IsPrepared b.place.head b.space.segments place old now
      → IsOf now (placed_at b place)
  pub stopped_behind : (old mid now : List ℕ) (b : Book) (place : Located) → IsOf old b → IsPrepared b.place.head b.space.segments place old mid
      → IsStopped (placed_at b place) mid now → IsStopped b old now
  pub new_behind : (old mid : List ℕ) (new : Table) (b : Book) (place : Located) → IsOf old b
      → IsPrepared b.place.head b.space.segments place old mid → HaveNew (placed_at b place) (table_with_head place.head mid) new
      → HaveNew b (table_with_head b.place.head old) new
  -- and the blocks are written
  pub new_whole : (file : List ℕ) (b : Book) → IsReady file b → AreWhole segment_units (news (bodies_of b.cache)) file
  pub old_whole : (file : List ℕ) (b : Book) → IsReady file b → AreWhole segment_units (old_units b.cache) file
  pub writing : (old now : List ℕ) (b : Book) → IsReady old b → IsWriting segment_units (bodies_of b.cache) (old_units b.cache) old now → IsStopped b old now
  pub of_flushed : (file : List ℕ) (b : Book) → IsReady file b → IsOf (flushed_file b file) (settled b)
  pub new : (file : List ℕ) (b : Book) → IsReady file b
      → HaveNew b (table_with_head b.place.head file) (table_with_head b.place.head (flushed_file b file))
  -- the ledger goes along
  pub ledger_as_it_is : (file : List ℕ) (b : Book) (l : Ledger) → b.cache ≡ [] → b.space.segments ≡ b.place.head.segments → HasLedger file b l
      → HasLedger file b (flush l)
  pub ledger_prepared : (old now : List ℕ) (b : Book) (place : Located) (l : Ledger) → IsOf old b
      → IsPrepared b.place.head b.space.segments place old now → HasLedger old b l → HasLedger now (placed_at b place) (all_filed l)
  pub ledger_flushed : (file : List ℕ) (b : Book) (l : Ledger) → IsReady file b → HasLedger file b l
      → HasLedger (flushed_file b file) (settled b) (flush l)
