-- Small files and histories that worked rows look into.
use Rattle.std.specs.Prelude.{ℕ, Bool, false, ◌==◌, ◌||◌, List, [], ◌∷◌, codes}
use Rattle.term_model.specs.TermValue.{TermValue}
use Rattle.term_model.specs.Written.{number, pair}
use Rattle.term_model.specs.declared.kind.Kind.{Kind}
use Rattle.term_model.specs.declared.kind.Kind.TheVariants.{Set, Bag}
use Rattle.table_model.specs.Table.{Table}
use Rattle.table_model.specs.Filled.{filled}
use Rattle.etf_model.specs.Canonical.{spelled}
use Rattle.space_model.specs.Runs.{Run, run}
use Rattle.space_model.specs.Ledger.{Standing, Ledger, pending_at, opened as opened_ledger}
use Rattle.file_model.specs.Taken.{table_of}
use Rattle.file_model.specs.Block.{Block}
use Rattle.file_model.specs.Rows.{set_block, small_view}
use Rattle.run_model.specs.declared.options.Access.TheVariants.{ReadWrite}
use Rattle.run_model.specs.State.{Kept, File, kept, OpenTable, closed}
use Rattle.run_model.specs.History.{History, history_from}
use Rattle.run_model.specs.Written.{opens, inserts, syncs}

abbrev pub stands : TermValue → Run → Standing
stands key at = record { key = spelled key; run = at }

-- a closed file of one segment of 8 units: {1,1} in a table of this kind, in unit 0
abbrev pub small_kept : Kind → ℕ → Kept
small_kept kind keypos = record {
  table = filled kind keypos (pair (number 1) (number 1) ∷ []);
  segment_units = 8;
  max_segments = 1;
  segments = 1;
  standing = stands (number 1) (run 0 0) ∷ [];
  needs_repair = false;
}

abbrev pub small_set : File
small_set = kept (small_kept Set 1)

abbrev pub small_bag : File
small_bag = kept (small_kept Bag 2)

-- the client c has it open
abbrev pub open_table_of : Table → ℕ → Ledger → OpenTable
open_table_of table segment_units ledger = record {
  table = table;
  segment_units = segment_units;
  access = ReadWrite;
  slots = 256;
  ledger = ledger;
  openings = codes "c" ∷ [];
  fixes = [];
}

abbrev pub open_set : OpenTable
open_set = open_table_of (filled Set 1 (pair (number 1) (number 1) ∷ [])) 8 (opened_ledger 1 1 (stands (number 1) (run 0 0) ∷ []))

-- a table of this kind without objects, in one segment of 8 units
abbrev pub open_small : Kind → OpenTable
open_small kind = open_table_of (filled kind 1 []) 8 (opened_ledger 1 1 [])

-- {1,1}, {1,1}, {3,1} and {1,2}, one after the other
abbrev pub four_insertions : List TermValue
four_insertions =
    inserts (pair (number 1) (number 1)) ∷ inserts (pair (number 1) (number 1)) ∷ inserts (pair (number 3) (number 1))
    ∷ inserts (pair (number 1) (number 2)) ∷ []

-- a set without objects, in segments of one unit, with this ledger
abbrev pub open_units : Ledger → OpenTable
open_units ledger = open_table_of (filled Set 1 []) 1 ledger

-- a ledger in which a key waits with so many bytes in unit 0
abbrev pub waits_with : ℕ → Ledger
waits_with bytes = record (opened_ledger 1 1 []) { pending = pending_at (spelled (number 9)) bytes (run 0 0) ∷ [] }

-- {1,2} takes the place of {1,1}, and is synced
abbrev pub replacing : History
replacing = history_from (closed small_set) (opens ∷ inserts (pair (number 1) (number 2)) ∷ syncs ∷ [])

-- what stands then in the file: {1,1} in unit 0, and {1,2} in unit 1
abbrev pub two_blocks : List Block
two_blocks = set_block 0 0 (number 1) (number 1) ∷ set_block 1 0 (number 1) (number 2) ∷ []

-- the table where these gates are open
abbrev pub found_with : (ℕ → Bool) → Table
found_with is_open = table_of (small_view two_blocks is_open)

abbrev pub old_table : Table
old_table = found_with (λ u. u == 0)

abbrev pub both_gates : Table
both_gates = found_with (λ u. u == 0 || u == 1)

abbrev pub new_table : Table
new_table = found_with (λ u. u == 1)

abbrev pub no_gates : Table
no_gates = found_with (λ u. false)
