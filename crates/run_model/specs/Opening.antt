-- Opening a table over its file, and the refusals of open_file/2, in their order. The options are those of the dets
-- reference manual, and max_segments and the reasons are this project's own.
use Rattle.std.specs.Prelude.{ℕ, Bool, true, false, cond, not, ◌&&◌, ◌==◌, List, [], ◌∷◌, Option, Some, None}
use Rattle.term_model.specs.TermValue.{TermValue}
use Rattle.term_model.specs.declared.kind.Kind.{Kind}
use Rattle.term_model.specs.declared.kind.Kind.TheVariants.{Set}
use Rattle.table_model.specs.TableCode.{kind_number}
use Rattle.table_model.specs.Walk.{slots_at_opening}
use Rattle.space_model.specs.Ledger.{opened as opened_ledger}
use Rattle.file_model.specs.declared.head.Unreadable.{Unreadable}
use Rattle.file_model.specs.declared.head.Unreadable.TheVariants.{NotDets, Version}
use Rattle.file_model.specs.Header.{most_segments}
use Rattle.run_model.specs.declared.options.Access.{Access}
use Rattle.run_model.specs.declared.options.Access.TheVariants.{Read, ReadWrite}
use Rattle.run_model.specs.declared.options.Repair.{Repair}
use Rattle.run_model.specs.declared.options.Repair.TheVariants.{Yes, No, Force}
use Rattle.run_model.specs.declared.options.OpenOptions.{OpenOptions}
use Rattle.run_model.specs.Reply.{ok_table, error}
use Rattle.run_model.specs.State.{Kept, File, empty, refused, kept, made, State, closed, opened}

abbrev pub default_options : OpenOptions
default_options = record { kind = Set; keypos = 1; access = ReadWrite; repair = Yes; max_segments = most_segments }

abbrev pub can_write : Access → Bool
can_write Read = false
can_write ReadWrite = true

abbrev pub wants_repair : Repair → Bool
wants_repair Yes = true
wants_repair No = false
wants_repair Force = true

-- a file that needs repair is opened only where it may be repaired
abbrev pub may_repair : OpenOptions → Bool
may_repair options = can_write options.access && wants_repair options.repair

abbrev pub is_same_kind : Kind → Kind → Bool
is_same_kind a b = kind_number a == kind_number b

-- ---- refusals

-- of a file that cannot be read
abbrev pub unreadable : Unreadable → TermValue
unreadable NotDets = error "not_a_dets_file"
unreadable (Version number) = error "version"

-- of one that can: the first that holds
abbrev pub refusal_of_kept : OpenOptions → Kept → Option TermValue
refusal_of_kept options k =
    cond (not (is_same_kind options.kind k.table.kind)) (Some (error "type_mismatch"))
    (cond (not (options.keypos == k.table.keypos)) (Some (error "keypos_mismatch"))
    (cond (k.needs_repair && not (may_repair options)) (Some (error "needs_repair")) None))

abbrev pub refusal : OpenOptions → File → Option TermValue
refusal options empty = cond (can_write options.access) None (Some (error "no_file"))
refusal options (refused why) = Some (unreadable why)
refusal options (kept k) = refusal_of_kept options k

-- ---- the table that is open

-- a client has it open, with the blocks of the file and nothing pending
abbrev pub opened_by : List ℕ → Access → Kept → State
opened_by client access k = opened (record {
  table = k.table;
  segment_units = k.segment_units;
  access = access;
  slots = slots_at_opening k.table;
  ledger = opened_ledger k.max_segments k.segments k.standing;
  openings = client ∷ [];
  fixes = [];
})

-- over an empty file, which is made, or one that was kept
abbrev pub opened_over : List ℕ → OpenOptions → File → State
opened_over client options empty = opened_by client options.access (made options)
opened_over client options (refused why) = closed (refused why)
opened_over client options (kept k) = opened_by client options.access k

abbrev pub opening_by : List ℕ → OpenOptions → File → Option TermValue → TermValue × State
opening_by client options file None = (ok_table, opened_over client options file)
opening_by client options file (Some why) = (why, closed file)

-- the answer to an opening of a table that is not open
abbrev pub opening : List ℕ → OpenOptions → File → TermValue × State
opening client options file = opening_by client options file (refusal options file)
