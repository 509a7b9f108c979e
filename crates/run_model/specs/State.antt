-- The state of a server between two commands: the file, or a table that is open. This project's own.
use Rattle.std.specs.Prelude.{ℕ, Bool, true, false, List, [], ◌∷◌, map, Option, Some, None, Result, Ok, Err}
use Rattle.term_model.specs.TermValue.{TermValue}
use Rattle.table_model.specs.Table.{Table, empty_table, objects_of}
use Rattle.etf_model.specs.Canonical.{spelled}
use Rattle.space_model.specs.Runs.{run}
use Rattle.space_model.specs.Ledger.{Standing, Ledger}
use Rattle.file_model.specs.declared.head.Head.{Head}
use Rattle.file_model.specs.declared.head.FileState.TheVariants.{Closed}
use Rattle.file_model.specs.declared.head.Unreadable.{Unreadable}
use Rattle.file_model.specs.Header.{the_version, units_per_segment, head_of, segments_of}
use Rattle.file_model.specs.Block.{Block}
use Rattle.file_model.specs.View.{view_of}
use Rattle.file_model.specs.Taken.{taken, table_of}
use Rattle.file_model.specs.Fit.{needs_repair}
use Rattle.run_model.specs.declared.options.Access.{Access}
use Rattle.run_model.specs.declared.options.OpenOptions.{OpenOptions}

-- ---- a file

-- a file with a header that can be read
pub record Kept : Type 0 where
  -- the header's kind and keypos, and the objects of the taken blocks
  pub table : Table
  -- how many units a segment has
  pub segment_units : ℕ
  pub max_segments : ℕ
  -- how many segments count
  pub segments : ℕ
  -- each key with the run of its block
  pub standing : List Standing
  pub needs_repair : Bool

pub data File : Type 0 where
  -- it has no bytes, or there is none
  empty : File
  -- it has no header that can be read
  refused : Unreadable → File
  kept : Kept → File

-- ---- the file of some bytes

abbrev pub standing_of_block : Block → Standing
standing_of_block b = record { key = spelled b.key; run = run b.unit b.exp }

abbrev pub kept_in : Head → List ℕ → Kept
kept_in h image = record {
  table = table_of (view_of h image);
  segment_units = units_per_segment h;
  max_segments = h.max_segments;
  segments = segments_of h image;
  standing = map standing_of_block (taken (view_of h image));
  needs_repair = needs_repair h image;
}

abbrev pub file_with : List ℕ → Result Head Unreadable → File
file_with image (Err why) = refused why
file_with image (Ok h) = kept (kept_in h image)

unfoldable pub file_of : List ℕ → File
file_of [] = empty
file_of (b ∷ bs) = file_with (b ∷ bs) (head_of (b ∷ bs))

-- the header of a file that is made for an opening
abbrev pub new_head : OpenOptions → Head
new_head options = record {
  version = the_version;
  state = Closed;
  kind = options.kind;
  keypos = options.keypos;
  segments = 0;
  max_segments = options.max_segments;
  index = None;
}

-- a file that is made has no objects and no segment
abbrev pub made : OpenOptions → Kept
made options = record {
  table = empty_table options.kind options.keypos;
  segment_units = units_per_segment (new_head options);
  max_segments = options.max_segments;
  segments = 0;
  standing = [];
  needs_repair = false;
}

-- ---- a table that is open

pub record OpenTable : Type 0 where
  pub table : Table
  pub segment_units : ℕ
  pub access : Access
  pub slots : ℕ
  pub ledger : Ledger
  -- the clients' names, one for each opening and one for each fix
  pub openings : List (List ℕ)
  pub fixes : List (List ℕ)

-- ---- the state

-- a list has an element
abbrev pub is_filled : {X : Type 0} → List X → Bool
is_filled [] = false
is_filled (x ∷ xs) = true

pub data State : Type 0 where
  closed : File → State
  opened : OpenTable → State

-- a server begins with a file that is not open
abbrev pub first_state : List ℕ → State
first_state image = closed (file_of image)

abbrev pub is_open : State → Bool
is_open (closed file) = false
is_open (opened o) = true

-- the table, where there is one
abbrev pub table_of_file : File → Option Table
table_of_file empty = None
table_of_file (refused why) = None
table_of_file (kept k) = Some k.table

abbrev pub table_in : State → Option Table
table_in (closed file) = table_of_file file
table_in (opened o) = Some o.table

abbrev pub objects_with : Option Table → TermValue → List TermValue
objects_with None key = []
objects_with (Some table) key = objects_of table key

-- the objects of a key; there are none without a table
abbrev pub objects_in : State → TermValue → List TermValue
objects_in s key = objects_with (table_in s) key
