-- What is known of a table's file in memory, which is called its book: the header, the space, the directory, and the keys
-- that wait for the next flush. And when a book is in order. This project's own.
use Rattle.std.specs.Prelude.{◌≡◌, ◌≤◌, ℕ, ◌*◌, true, List, ◌++◌, map, filter_map, Option, option_map, Result, Ok, Err}
use Rattle.term_model.specs.Hash.{hash_of}
use Rattle.space_model.specs.Least.{log2}
use Rattle.space_model.specs.Runs.{Run, run}
use Rattle.space_model.specs.Apart.{In, Pairs, SameMembers, Apart, IsRun}
use Rattle.file_model.specs.declared.block.Packed.{Packed}
use Rattle.file_model.specs.declared.entry.Entry.{Entry}
use Rattle.file_model.specs.declared.head.Located.{Located}
use Rattle.file_model.specs.Header.{is_allowed}
use Rattle.write_cache.specs.declared.pending.Pending.{Pending}
use Rattle.write_cache.specs.Waiting.{Waiting, HasDistinctKeys}

-- ---- the space

-- Some segments, in which runs are taken, or deferred until the next flush. All else is free.
pub record Space : Type 0 where
  pub segments : ℕ
  pub taken : List Run
  pub deferred : List Run

-- the runs that are not free
abbrev pub held : Space → List Run
held s = s.taken ++ s.deferred

-- Taken, deferred and free runs part the units of segments that have so many each.
pub record IsParted (segment_units : ℕ) (s : Space) : Type 0 where
  -- each run is aligned, and lies in the segments
  pub taken_runs : (r : Run) → In r s.taken → IsRun (log2 segment_units) (segment_units * s.segments) r
  pub deferred_runs : (r : Run) → In r s.deferred → IsRun (log2 segment_units) (segment_units * s.segments) r
  -- no two of them meet
  pub taken_apart : Pairs Apart s.taken
  pub deferred_apart : Pairs Apart s.deferred
  pub beside : (r q : Run) → In r s.taken → In q s.deferred → Apart r q

-- ---- the book

pub record Book : Type 0 where
  -- the header of the file, and where it was found
  pub place : Located
  pub space : Space
  -- what is known of the newest block of each key
  pub directory : List Entry
  pub cache : Waiting

abbrev pub entry_run : Entry → Run
entry_run e = run e.unit e.exp

abbrev pub entry_runs : List Entry → List Run
entry_runs entries = map entry_run entries

-- ---- the keys that wait

-- the entry of a new block
abbrev pub new_entry : ℕ → ℕ → Packed → Entry
new_entry hash unit p = record { hash = hash; unit = unit; exp = p.exp; count = p.count }

-- that of the block of a key that waits, if it has one
abbrev pub pending_entry : Pending → Option Entry
pending_entry s = option_map (new_entry s.hash s.unit) s.block

abbrev pub pending_entries : Waiting → List Entry
pending_entries w = filter_map (λ e. pending_entry e.1) w

-- what stands in the file for the keys that wait
abbrev pub olds_of : Waiting → List Entry
olds_of w = filter_map (λ e. e.1.old) w

-- ---- in order

abbrev pub OtherUnit : Entry → Entry → Type 0
OtherUnit e f = e.unit ≡ f.unit → ⊥

abbrev pub MeetsNot : Entry → Entry → Type 0
MeetsNot e f = Apart (entry_run e) (entry_run f)

-- What it means that a book is in order: each part is one sentence of it.
pub record IsInOrder (b : Book) : Type 0 where
  -- the header has fields that are allowed
  pub header : is_allowed b.place.head ≡ true
  -- the space has at least the header's segments
  pub at_least : b.place.head.segments ≤ b.space.segments
  -- and at most max_segments
  pub at_most : b.space.segments ≤ b.place.head.max_segments
  -- no two runs of the directory's entries meet
  pub entries : Pairs MeetsNot b.directory
  -- the taken runs of the space are exactly these runs
  pub taken : SameMembers b.space.taken (entry_runs b.directory)
  -- no two pending keys with a block have the same unit
  pub units : Pairs OtherUnit (pending_entries b.cache)
  -- each pending key with a block has the entry with its hash, its unit, and the block's exponent and count
  pub listed : (e : Entry) → In e (pending_entries b.cache) → In e b.directory
  -- the deferred runs are exactly those of the blocks that stand for the pending keys
  pub deferred : SameMembers b.space.deferred (entry_runs (olds_of b.cache))
  -- the hash of each pending key is that of its key
  pub hashed : (e : List ℕ × Pending) → In e b.cache → e.1.hash ≡ hash_of e.0

-- A book in order, with what its space and its cache always keep, where segments have so many units.
pub record IsWellFormed (segment_units : ℕ) (b : Book) : Type 0 where
  pub order : IsInOrder b
  pub parted : IsParted segment_units b.space
  pub distinct : HasDistinctKeys b.cache

-- ---- two books that differ in nothing that is seen

-- The same but for the order of runs and of entries.
pub record IsAlike (a b : Book) : Type 0 where
  pub place : b.place ≡ a.place
  pub segments : b.space.segments ≡ a.space.segments
  pub taken : SameMembers a.space.taken b.space.taken
  pub deferred : SameMembers a.space.deferred b.space.deferred
  pub directory : SameMembers a.directory b.directory
  pub cache : b.cache ≡ a.cache

-- two results with books that are alike, or with the same exponent
abbrev pub AreAlike : Result Book ℕ → Result Book ℕ → Type 0
AreAlike (Ok a) (Ok b) = IsAlike a b
AreAlike (Ok a) (Err y) = ⊥
AreAlike (Err x) (Ok b) = ⊥
AreAlike (Err x) (Err y) = y ≡ x
