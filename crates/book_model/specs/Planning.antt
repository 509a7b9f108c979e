-- What the touched keys of a command do to a book, before anything is written. This project's own.
use Rattle.std.specs.Prelude.{◌≡◌, ℕ, ◌-◌, false, cond, not, ◌==◌, List, [], ◌∷◌, ◌++◌, length, filter, bytes_eq, Option, Some, None, Result, Ok, Err}
use Rattle.term_model.specs.TermValue.{TermValue}
use Rattle.term_model.specs.Hash.{hash_of}
use Rattle.etf_model.specs.Canonical.{spelled}
use Rattle.space_model.specs.Runs.{Run, run, place}
use Rattle.space_model.specs.Apart.{In, Pairs}
use Rattle.space_model.specs.Ledger.{is_too_large, Placed, place_growing}
use Rattle.file_model.specs.declared.block.Packed.{Packed}
use Rattle.file_model.specs.declared.entry.Entry.{Entry}
use Rattle.file_model.specs.declared.head.Head.{Head}
use Rattle.file_model.specs.Header.{units_per_segment}
use Rattle.file_model.specs.Block.{one_key}
use Rattle.file_model.specs.Packing.{payload_of, MayPack, IsBlockOf}
use Rattle.write_cache.specs.declared.pending.Pending.{Pending}
use Rattle.write_cache.specs.Waiting.{state_of, with_state}
use Rattle.book_model.specs.declared.change.Change.{Change}
use Rattle.book_model.specs.Book.{held, Book, entry_run, new_entry, pending_entry, pending_entries}

-- ---- what is known of the changes of a command

-- a block of objects of this key, which a file with this header allows
pub record IsBlockFor (h : Head) (key : List ℕ) (p : Packed) : Type 0 where
  pub objects : List TermValue
  pub term : TermValue
  pub may_pack : MayPack objects
  pub made : IsBlockOf objects p
  pub of_key : one_key h.kind h.keypos objects ≡ Some term
  pub spelled_is : spelled term ≡ key
  pub fits : is_too_large (units_per_segment h) (length (payload_of objects)) ≡ false

-- an entry of the directory that is no pending key's
pub record IsStanding (b : Book) (e : Entry) : Type 0 where
  pub there : In e b.directory
  pub not_pending : (f : Entry) → In f (pending_entries b.cache) → f.unit ≡ e.unit → ⊥

-- A change of a key: its hash, the key's entry in the directory, and its new block, none where no object is left.
pub record IsChange (b : Book) (c : Change) : Type 0 where
  pub hashed : c.hash ≡ hash_of c.key
  -- where the key is pending the entry is that of its pending block, if it has one
  pub pending : (s : Pending) → state_of b.cache c.key ≡ Some s → c.old ≡ pending_entry s
  -- else there is none, or it is one with this hash that is no pending key's
  pub standing : state_of b.cache c.key ≡ None → (e : Entry) → c.old ≡ Some e → IsStanding b e × (e.hash ≡ c.hash)
  pub next : (p : Packed) → c.next ≡ Some p → IsBlockFor b.place.head c.key p

abbrev pub OtherKey : Change → Change → Type 0
OtherKey c d = bytes_eq c.key d.key ≡ false

abbrev pub OtherEntry : Change → Change → Type 0
OtherEntry c d = (e f : Entry) → c.old ≡ Some e → d.old ≡ Some f → e ≡ f → ⊥

-- the changes of one command: each of another key, and with another entry
pub record AreChanges (b : Book) (changes : List Change) : Type 0 where
  pub each : (c : Change) → In c changes → IsChange b c
  pub keys : Pairs OtherKey changes
  pub entries : Pairs OtherEntry changes

-- ---- a touched key gives up its block

abbrev pub without_run : Option Entry → List Run → List Run
without_run None runs = runs
without_run (Some e) runs = filter (λ r. not (r.unit == e.unit)) runs

abbrev pub without_entry : Option Entry → List Entry → List Entry
without_entry None entries = entries
without_entry (Some e) entries = filter (λ f. not (f.unit == e.unit)) entries

-- A pending block is given back at once. One that stands in the file is deferred.
abbrev pub with_deferred : Option Pending → Option Entry → List Run → List Run
with_deferred (Some s) old runs = runs
with_deferred None None runs = runs
with_deferred None (Some e) runs = runs ++ entry_run e ∷ []

-- what stands in the file for the key
abbrev pub stands_for : Option Pending → Option Entry → Option Entry
stands_for (Some s) old = s.old
stands_for None old = old

-- the key waits without a block
abbrev pub emptied : Change → Option Pending → Pending
emptied c earlier = record { block = None; unit = 0; hash = c.hash; old = stands_for earlier c.old }

abbrev pub released_as : Book → Change → Option Pending → Book
released_as b c earlier = record b {
  space = record b.space { taken = without_run c.old b.space.taken; deferred = with_deferred earlier c.old b.space.deferred };
  directory = without_entry c.old b.directory;
  cache = with_state b.cache c.key (emptied c earlier);
}

abbrev pub released : Book → Change → Book
released b c = released_as b c (state_of b.cache c.key)

-- ---- and gets a new one

-- a key that waits in this state has a new block, from this unit on
abbrev pub given : Book → List ℕ → Pending → Packed → ℕ → Book
given b key s p unit = record b {
  space = record b.space { taken = run unit p.exp ∷ b.space.taken };
  directory = new_entry s.hash unit p ∷ b.directory;
  cache = with_state b.cache key (record s { block = Some p; unit = unit });
}

-- the space has so many segments
abbrev pub grown : Book → ℕ → Book
grown b segments = record b { space = record b.space { segments = segments } }

-- the touched key has a new block, from this unit on in so many segments
abbrev pub moved : Book → Change → Packed → ℕ → ℕ → Book
moved b c p segments unit = given (grown (released b c) segments) c.key (emptied c (state_of b.cache c.key)) p unit

-- the unit of a block with this exponent
abbrev pub kept_in : Option Entry → ℕ → Option ℕ
kept_in None exp = None
kept_in (Some e) exp = cond (e.exp == exp) (Some e.unit) None

abbrev pub kept_unit : Option Pending → ℕ → Option ℕ
kept_unit None exp = None
kept_unit (Some s) exp = kept_in (pending_entry s) exp

abbrev pub served_at : Book → Change → Packed → Option Placed → Result Book ℕ
served_at b c p None = Err p.exp
served_at b c p (Some at) = Ok (moved b c p at.segments at.unit)

-- A pending block of the exponent keeps its run. Else the new run is placed while all runs are held, the key's old one too;
-- segments are added one at a time as long as there is no place.
abbrev pub served_with : ℕ → Book → Change → Packed → Option ℕ → Result Book ℕ
served_with segment_units b c p (Some unit) = Ok (moved b c p b.space.segments unit)
served_with segment_units b c p None =
    served_at b c p (place_growing segment_units (held b.space) p.exp b.space.segments (b.place.head.max_segments - b.space.segments))

abbrev pub served : ℕ → Book → Change → Option Packed → Result Book ℕ
served segment_units b c None = Ok (released b c)
served segment_units b c (Some p) = served_with segment_units b c p (kept_unit (state_of b.cache c.key) p.exp)

-- the book after a touched key is served, or the exponent for which it is full
abbrev pub serve : ℕ → Book → Change → Result Book ℕ
serve segment_units b c = served segment_units b c c.next

-- the exponent for which a change is full: that of its new block, which has no place with all segments
pub record IsFull (segment_units : ℕ) (b : Book) (c : Change) (exp : ℕ) : Type 0 where
  pub packed : Packed
  pub next : c.next ≡ Some packed
  pub exp_is : packed.exp ≡ exp
  pub no_place : place segment_units b.place.head.max_segments (held b.space) exp ≡ None

-- ---- a command

abbrev pub after_served : Result Book ℕ → (Book → Result Book ℕ) → Result Book ℕ
after_served (Ok b) next = next b
after_served (Err exp) next = Err exp

-- the same of the touched keys of a command, in order
abbrev pub serve_all : ℕ → Book → List Change → Result Book ℕ
serve_all segment_units b [] = Ok b
serve_all segment_units b (c ∷ cs) = after_served (serve segment_units b c) (λ next. serve_all segment_units next cs)

-- where a command is full all segments are added, and else the book is as before
abbrev pub or_before : Book → Result Book ℕ → Book
or_before b (Ok new) = new
or_before b (Err exp) = grown b b.place.head.max_segments

-- the book after a command
abbrev pub planned : ℕ → Book → List Change → Book
planned segment_units b changes = or_before b (serve_all segment_units b changes)
