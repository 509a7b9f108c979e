-- What a step leaves as it was, by the cases of its answer.
use Rattle.std.proofs.Common.{◌≡◌, ℕ, Bool, true, false, cond, List, [], ◌∷◌, Option, Some, None, Result, Ok, Err, refl, ap}
use Rattle.std.specs.Prelude.{IfSome, option_and_then, not}
use Rattle.std.specs.List.{list_any, list_all}
use Rattle.term_model.specs.TermValue.{TermValue, nil, chain}
use Rattle.table_model.specs.Table.{Table, objects_of, insert_object}
use Rattle.table_model.specs.Touched.{touched_by_insert}
use Rattle.table_model.specs.Operations.{insert_objects}
use Rattle.table_model.specs.Walk.{touches_of}
use Rattle.table_model.specs.Allowed.{is_object}
use Rattle.space_model.specs.Ledger.{Ledger, Touch, serve_all, or_before, flush_at_limit}
use Rattle.run_model.specs.declared.options.OpenOptions.{OpenOptions}
use Rattle.run_model.specs.Command.{Operation, open_table, close_table, insert, lookup, sync, Command, command_of}
use Rattle.run_model.specs.Reply.{ok, error, is_error}
use Rattle.run_model.specs.State.{File, empty, refused, kept, OpenTable, State, closed, opened, is_filled}
use Rattle.run_model.specs.Opening.{default_options, refusal, opening, opening_by, can_write}
use Rattle.run_model.specs.Changing.{grown, is_touch_too_large, changed_with, change, inserted}
use Rattle.run_model.specs.Closing.{is_named, flushed, closed_of, after_close, without_opening, without_first}
use Rattle.run_model.specs.Step.{is_empty_list, is_filled_tuple, serve_closed, serve_opened, serve, step}
use Rattle.run_model.specs.Stays.{IsStepFrom}

some_if : {A : Type 0} (b : Bool) (x : A) (P : A → Type 0) → P x → IfSome (cond b (Some x) None) P
some_if true x P p = p
some_if false x P p = tt

-- ---- openings

opens : (client : List ℕ) (options : OpenOptions) (file : File) (why : Option TermValue) → IsStepFrom (closed file) (opening_by client options file why)
opens client options empty None = record { shape = tt; refused = tt; error = λ e. absurd cc }
opens client options (refused reason) None = record { shape = tt; refused = refl; error = λ e. absurd cc }
opens client options (kept k) None = record { shape = (refl, refl); refused = tt; error = λ e. absurd cc }
opens client options empty (Some why) = record { shape = tt; refused = tt; error = λ e. refl }
opens client options (refused reason) (Some why) = record { shape = tt; refused = refl; error = λ e. refl }
opens client options (kept k) (Some why) = record { shape = (refl, refl); refused = tt; error = λ e. refl }

served_closed : (client : List ℕ) (file : File) (operation : Operation) → IfSome (serve_closed client file operation) (IsStepFrom (closed file))
served_closed client file (open_table options) =
    some_if (is_empty_list options) (opening client default_options file) (IsStepFrom (closed file))
    (opens client default_options file (refusal default_options file))
served_closed client file close_table = tt
served_closed client file (insert objects) = tt
served_closed client file (lookup key) = tt
served_closed client file sync = tt

-- ---- a table that is open

-- an answer that leaves the table but for its ledger
stays : (o : OpenTable) (reply : TermValue) (ledger : Ledger) → IsStepFrom (opened o) (reply, opened (record o { ledger = ledger }))
stays o reply ledger = record { shape = (refl, refl); refused = tt; error = λ e. (ledger, refl) }

-- one that is no error, and leaves a table of the same kind and keypos
goes_on : (o new : OpenTable) (reply : TermValue) → is_error reply ≡ false → new.table.kind ≡ o.table.kind → new.table.keypos ≡ o.table.keypos
    → IsStepFrom (opened o) (reply, opened new)
goes_on o new reply fine kind keypos = record { shape = (kind, keypos); refused = tt; error = λ e. absurd cc }

leaves : (o new : OpenTable) (is_open : Bool) → new.table ≡ o.table → IsStepFrom (opened o) (ok, cond is_open (opened (grown new)) (closed_of new))
leaves o new true same = record { shape = (ap (λ t. t.kind) same, ap (λ t. t.keypos) same); refused = tt; error = λ e. absurd cc }
leaves o new false same = record { shape = (ap (λ t. t.kind) same, ap (λ t. t.keypos) same); refused = tt; error = λ e. absurd cc }

changed : (o : OpenTable) (table : Table) (ledger : Ledger) (served : Result Ledger ℕ) → table.kind ≡ o.table.kind → table.keypos ≡ o.table.keypos
    → IsStepFrom (opened o) (changed_with (record o { ledger = ledger }) table ok served)
changed o table ledger (Ok new) kind keypos = goes_on o (grown (record o { table = table; ledger = new })) ok refl kind keypos
changed o table ledger (Err exp) kind keypos = stays o (error "full") (or_before ledger (Err exp))

changed_if : (o : OpenTable) (table : Table) (ledger : Ledger) (touches : List Touch) (is_large : Bool) → table.kind ≡ o.table.kind
    → table.keypos ≡ o.table.keypos
    → IsStepFrom (opened o) (cond is_large (error "too_large", opened (record o { ledger = ledger }))
    (changed_with (record o { ledger = ledger }) table ok (serve_all o.segment_units ledger touches)))
changed_if o table ledger touches true kind keypos = stays o (error "too_large") ledger
changed_if o table ledger touches false kind keypos = changed o table ledger (serve_all o.segment_units ledger touches) kind keypos

inserts : (o : OpenTable) (object : TermValue) (is_no_object cannot_write : Bool)
    → IsStepFrom (opened o) (cond is_no_object (error "badarg", opened o) (cond cannot_write (error "access_mode", opened o)
    (change o (insert_objects o.table (object ∷ [])) (touched_by_insert (object ∷ []) o.table (insert_objects o.table (object ∷ []))) ok)))
inserts o object true cannot_write = stays o (error "badarg") o.ledger
inserts o object false true = stays o (error "access_mode") o.ledger
inserts o object false false =
    let new = insert_object o.table object in
    let touches = touches_of new (touched_by_insert (object ∷ []) o.table new) in
    changed_if o new (flush_at_limit o.ledger) touches (list_any (is_touch_too_large o.segment_units) touches) refl refl

no_error : (objects : List TermValue) → is_error (chain objects nil) ≡ false
no_error [] = refl
no_error (object ∷ objects) = refl

served_opened : (client : List ℕ) (o : OpenTable) (operation : Operation) → IfSome (serve_opened client o operation) (IsStepFrom (opened o))
served_opened client o (open_table options) = tt
served_opened client o close_table =
    some_if (is_named client o.openings) (ok, after_close client o) (IsStepFrom (opened o))
    (leaves o (without_opening client (without_first client o.openings) o) (is_filled (without_first client o.openings)) refl)
served_opened client o (insert objects) =
    some_if (is_filled_tuple objects) (inserted o (objects ∷ [])) (IsStepFrom (opened o))
    (inserts o objects (not (list_all (is_object o.table.keypos) (objects ∷ []))) (not (can_write o.access)))
served_opened client o (lookup key) = goes_on o (grown o) (chain (objects_of o.table key) nil) (no_error (objects_of o.table key)) refl refl
served_opened client o sync = goes_on o (grown (flushed o)) ok refl refl refl

-- ---- any command

served : (s : State) (command : Command) → IfSome (serve s command) (IsStepFrom s)
served (closed file) command = served_closed command.client file command.operation
served (opened o) command = served_opened command.client o command.operation

stepped : (s : State) (command : Option Command) → IfSome (option_and_then (serve s) command) (IsStepFrom s)
stepped s None = tt
stepped s (Some command) = served s command

pub steps : (s : State) (command : TermValue) → IfSome (step s command) (IsStepFrom s)
steps s command = stepped s (command_of command)
