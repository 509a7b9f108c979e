-- How a state is coded, for the types of the code that show one.
use Rattle.std.specs.Prelude.{◌≡◌, ℕ, Bool, true, false, List, Option, Some, None, ◌⊎◌, refl}
use Rattle.std.specs.Coded.{Coded, code_by, coded×, coded⊎, coded_ℕ, coded_bool, coded_list, coded_option}
use mathlib.Core.Logic.{inl, inr}
use Rattle.space_model.specs.Ledger.{Standing, Ledger}
use Rattle.space_model.specs.LedgerCode.{coded_standing, coded_ledger}
use Rattle.table_model.specs.Table.{Table}
use Rattle.table_model.specs.TableCode.{coded_table}
use Rattle.file_model.specs.declared.head.Unreadable.{Unreadable}
use Rattle.file_model.specs.HeaderCode.{coded_unreadable}
use Rattle.run_model.specs.declared.options.Access.{Access}
use Rattle.run_model.specs.declared.options.Access.TheVariants.{Read, ReadWrite}
use Rattle.run_model.specs.State.{Kept, File, empty, refused, kept, OpenTable, State, closed, opened}
use Rattle.run_model.specs.Opening.{can_write}

-- ---- a file

abbrev pub coded_kept : Coded Kept
coded_kept =
    code_by (Table × (ℕ × (ℕ × (ℕ × (List Standing × Bool)))))
    (coded× coded_table (coded× coded_ℕ (coded× coded_ℕ (coded× coded_ℕ (coded× (coded_list coded_standing) coded_bool)))))
    (λ k. (k.table, (k.segment_units, (k.max_segments, (k.segments, (k.standing, k.needs_repair))))))
    (λ p. record { table = p.0; segment_units = p.1.0; max_segments = p.1.1.0; segments = p.1.1.1.0; standing = p.1.1.1.1.0; needs_repair = p.1.1.1.1.1 })
    (λ _. refl)

abbrev pub file_cases : File → Option (Unreadable ⊎ Kept)
file_cases empty = None
file_cases (refused why) = Some (inl why)
file_cases (kept k) = Some (inr k)

abbrev pub file_by : Option (Unreadable ⊎ Kept) → File
file_by None = empty
file_by (Some (inl why)) = refused why
file_by (Some (inr k)) = kept k

pub file_by-cases : (file : File) → file_by (file_cases file) ≡ file
file_by-cases empty = refl
file_by-cases (refused why) = refl
file_by-cases (kept k) = refl

abbrev pub coded_file : Coded File
coded_file = code_by (Option (Unreadable ⊎ Kept)) (coded_option (coded⊎ coded_unreadable coded_kept)) file_cases file_by file_by-cases

-- ---- a table that is open

abbrev pub access_by : Bool → Access
access_by true = ReadWrite
access_by false = Read

pub access_by-can_write : (access : Access) → access_by (can_write access) ≡ access
access_by-can_write Read = refl
access_by-can_write ReadWrite = refl

abbrev pub coded_access : Coded Access
coded_access = code_by Bool coded_bool can_write access_by access_by-can_write

abbrev pub coded_names : Coded (List (List ℕ))
coded_names = coded_list (coded_list coded_ℕ)

abbrev pub coded_open_table : Coded OpenTable
coded_open_table =
    code_by (Table × (ℕ × (Access × (ℕ × (Ledger × (List (List ℕ) × List (List ℕ)))))))
    (coded× coded_table (coded× coded_ℕ (coded× coded_access (coded× coded_ℕ (coded× coded_ledger (coded× coded_names coded_names))))))
    (λ o. (o.table, (o.segment_units, (o.access, (o.slots, (o.ledger, (o.openings, o.fixes)))))))
    (λ p. record {
      table = p.0;
      segment_units = p.1.0;
      access = p.1.1.0;
      slots = p.1.1.1.0;
      ledger = p.1.1.1.1.0;
      openings = p.1.1.1.1.1.0;
      fixes = p.1.1.1.1.1.1;
    })
    (λ _. refl)

-- ---- the state

abbrev pub state_cases : State → File ⊎ OpenTable
state_cases (closed file) = inl file
state_cases (opened o) = inr o

abbrev pub state_by : File ⊎ OpenTable → State
state_by (inl file) = closed file
state_by (inr o) = opened o

pub state_by-cases : (s : State) → state_by (state_cases s) ≡ s
state_by-cases (closed file) = refl
state_by-cases (opened o) = refl

abbrev pub coded_state : Coded State
coded_state = code_by (File ⊎ OpenTable) (coded⊎ coded_file coded_open_table) state_cases state_by state_by-cases
