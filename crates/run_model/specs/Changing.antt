-- What a changing command does to a table that is open, once it has passed the refusals that are judged before. This project's own.
use Rattle.std.specs.Prelude.{ℕ, Bool, false, cond, not, List, Result, Ok, Err}
use Rattle.std.specs.List.{list_any, list_all}
use Rattle.std.specs.Option.{option_map_or}
use Rattle.term_model.specs.TermValue.{TermValue}
use Rattle.table_model.specs.Table.{Table}
use Rattle.table_model.specs.Allowed.{is_object}
use Rattle.table_model.specs.Operations.{insert_objects}
use Rattle.table_model.specs.Touched.{touched_by_insert}
use Rattle.table_model.specs.Walk.{slots_after, touches_of}
use Rattle.space_model.specs.Ledger.{Ledger, Touch, is_too_large, serve_all, or_before, flush_at_limit}
use Rattle.run_model.specs.Reply.{ok, error}
use Rattle.run_model.specs.State.{OpenTable, State, opened, is_filled}
use Rattle.run_model.specs.Opening.{can_write}

-- the number of slots grows with the keys behind each command that is not refused, while no fix is there
abbrev pub grown : OpenTable → OpenTable
grown o = record o { slots = slots_after (is_filled o.fixes) o.slots o.table }

-- whether the new objects of a touched key have no room in a whole segment
abbrev pub is_touch_too_large : ℕ → Touch → Bool
is_touch_too_large segment_units touch = option_map_or (is_too_large segment_units) touch.bytes false

abbrev pub changed_with : OpenTable → Table → TermValue → Result Ledger ℕ → TermValue × State
changed_with o new reply (Ok ledger) = (reply, opened (grown (record o { table = new; ledger = ledger })))
changed_with o new reply (Err exp) = (error "full", opened (record o { ledger = or_before o.ledger (Err exp) }))

-- The answer where a command touches these keys and leaves this table: too_large is judged first, and then full.
abbrev pub change_to : OpenTable → Table → List Touch → TermValue → TermValue × State
change_to o new touches reply =
    cond (list_any (is_touch_too_large o.segment_units) touches) (error "too_large", opened o)
    (changed_with o new reply (serve_all o.segment_units o.ledger touches))

-- A cache at its limit is flushed before, whether the command is refused or not.
abbrev pub change : OpenTable → Table → List TermValue → TermValue → TermValue × State
change o new touched reply = change_to (record o { ledger = flush_at_limit o.ledger }) new (touches_of new touched) reply

-- the answer to the insertion of these objects, in order
abbrev pub inserted : OpenTable → List TermValue → TermValue × State
inserted o objects =
    cond (not (list_all (is_object o.table.keypos) objects)) (error "badarg", opened o)
    (cond (not (can_write o.access)) (error "access_mode", opened o)
    (change o (insert_objects o.table objects) (touched_by_insert objects o.table (insert_objects o.table objects)) ok))
