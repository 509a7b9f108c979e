-- The ledger of a book. This project's own.
use Rattle.std.specs.Prelude.{ℕ, ◌-◌, ◌==◌, not, List, ◌++◌, length, map, filter, option_map, Result, Ok, Err}
use Rattle.std.specs.List.{list_any}
use Rattle.space_model.specs.Sizes.{head_size}
use Rattle.space_model.specs.Apart.{SameMembers}
use Rattle.space_model.specs.Ledger.{Standing, Ledger, Touch}
use Rattle.file_model.specs.declared.entry.Entry.{Entry}
use Rattle.write_cache.specs.Waiting.{ledger_of as pending_of}
use Rattle.book_model.specs.declared.change.Change.{Change}
use Rattle.book_model.specs.Book.{Book, entry_runs, pending_entries, olds_of}

-- The entries of the blocks in the file: the directory without the entries of pending keys, and with what stands for these
-- keys in the file.
abbrev pub filed_entries : Book → List Entry
filed_entries b = filter (λ e. not (list_any (λ f. f.unit == e.unit) (pending_entries b.cache))) b.directory ++ olds_of b.cache

-- these keys have just the blocks that stand in the file
abbrev pub AreStanding : List Standing → Book → Type 0
AreStanding standing b = SameMembers (map (λ s. s.run) standing) (entry_runs (filed_entries b))

-- The directory has hashes, so the keys of the blocks in the file are told beside the book.
abbrev pub ledger_of : List Standing → Book → Ledger
ledger_of standing b = record {
  max = b.place.head.max_segments;
  filed = b.place.head.segments;
  segments = b.space.segments;
  standing = standing;
  pending = pending_of b.cache;
}

-- what the ledger is told of a change
abbrev pub touch_of : Change → Touch
touch_of c = record { key = c.key; bytes = option_map (λ p. length p.block - head_size) c.next }

abbrev pub touches_of : List Change → List Touch
touches_of changes = map touch_of changes

abbrev pub ledger_result : List Standing → Result Book ℕ → Result Ledger ℕ
ledger_result standing (Ok b) = Ok (ledger_of standing b)
ledger_result standing (Err exp) = Err exp
