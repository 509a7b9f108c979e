-- The lines that tell what a file is found to be. All of it is this project's own.
use Rattle.std.specs.Prelude.{ℕ, Bool, true, false, List, ◌++◌, codes, decimal}
use Rattle.std.specs.List.{flat_map}
use Rattle.term_model.specs.declared.kind.Kind.{Kind}
use Rattle.term_model.specs.declared.kind.Kind.TheVariants.{Set, Bag, DuplicateBag}
use Rattle.file_model.specs.declared.head.FileState.{FileState}
use Rattle.file_model.specs.declared.head.FileState.TheVariants.{Closed, Dirty}
use Rattle.file_model.specs.declared.head.Head.{Head}
use Rattle.file_model.specs.declared.reject.Reason.{Reason}
use Rattle.file_model.specs.declared.reject.Reason.TheVariants.{BadHead, NotAligned, BadPayload, Overlaps, KeyTaken}
use Rattle.file_model.specs.declared.reject.Reject.{Reject}
use Rattle.repair_scan.specs.declared.report.IndexState.{IndexState}
use Rattle.repair_scan.specs.declared.report.IndexState.TheVariants.{Absent, Agrees, Differs}
use Rattle.repair_scan.specs.declared.report.Report.{Report}

-- ---- words

abbrev pub kind_word : Kind → List ℕ
kind_word Set = codes "set"
kind_word Bag = codes "bag"
kind_word DuplicateBag = codes "duplicate_bag"

abbrev pub state_word : FileState → List ℕ
state_word Closed = codes "closed"
state_word Dirty = codes "dirty"

abbrev pub index_word : IndexState → List ℕ
index_word Absent = codes "absent"
index_word Agrees = codes "agrees"
index_word Differs = codes "differs"

abbrev pub bool_word : Bool → List ℕ
bool_word true = codes "true"
bool_word false = codes "false"

-- ---- one more element of a tuple, and the end of a line

abbrev pub then_word : List ℕ → List ℕ
then_word word = codes "," ++ word

abbrev pub then_number : ℕ → List ℕ
then_number number = then_word (decimal number)

abbrev pub line_of : (name elements : List ℕ) → List ℕ
line_of name elements = codes "{" ++ name ++ elements ++ codes "}.\n"

-- ---- lines

abbrev pub head_line : Head → List ℕ
head_line h = line_of (codes "head") (then_word (kind_word h.kind) ++ then_number h.keypos ++ then_word (state_word h.state)
    ++ then_number h.segments ++ then_number h.max_segments)

abbrev pub table_line : (keys objects : ℕ) → List ℕ
table_line keys objects = line_of (codes "table") (then_number keys ++ then_number objects)

-- a reason, with the other unit where it has one
abbrev pub then_reason : Reason → List ℕ
then_reason BadHead = then_word (codes "bad_head")
then_reason NotAligned = then_word (codes "not_aligned")
then_reason BadPayload = then_word (codes "bad_payload")
then_reason (Overlaps other) = then_word (codes "overlaps") ++ then_number other
then_reason (KeyTaken other) = then_word (codes "key_taken") ++ then_number other

abbrev pub reject_line : Reject → List ℕ
reject_line r = line_of (codes "reject") (then_number r.unit ++ then_reason r.reason)

abbrev pub index_line : IndexState → List ℕ
index_line index = line_of (codes "index") (then_word (index_word index))

abbrev pub bool_line : List ℕ → Bool → List ℕ
bool_line name value = line_of name (then_word (bool_word value))

-- ---- all lines, in order

abbrev pub report_lines : Report → List ℕ
report_lines r = head_line r.located.head ++ table_line r.keys r.objects ++ flat_map reject_line r.rejects ++ index_line r.index
    ++ bool_line (codes "sound") r.sound ++ bool_line (codes "needs_repair") r.needs_repair
