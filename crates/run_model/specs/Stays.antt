-- What a step leaves as it was, and where the last sync point lies. This project's own.
use Rattle.std.specs.Prelude.{◌≡◌, ◌≤◌, ◌<◌, ℕ, true, false, Option, Some, None}
use Rattle.term_model.specs.TermValue.{TermValue}
use Rattle.table_model.specs.Table.{Table}
use Rattle.space_model.specs.Ledger.{Ledger}
use Rattle.run_model.specs.Reply.{is_error}
use Rattle.run_model.specs.State.{empty, refused, kept, State, closed, opened, table_in}
use Rattle.run_model.specs.History.{History, is_synced_at}

-- a table keeps its kind and its keypos
abbrev pub KeepsShape : Option Table → Option Table → Type 0
KeepsShape None new = Unit {0}
KeepsShape (Some old) None = ⊥
KeepsShape (Some old) (Some new) = (new.kind ≡ old.kind) × (new.keypos ≡ old.keypos)

-- nothing changes but the ledger of a table that is open
abbrev pub IsSameButLedger : State → State → Type 0
IsSameButLedger (closed file) new = new ≡ closed file
IsSameButLedger (opened o) new = (ledger : Ledger) × (new ≡ opened (record o { ledger = ledger }))

-- a file that has no header stays as it is
abbrev pub StaysRefused : State → State → Type 0
StaysRefused (closed empty) new = Unit {0}
StaysRefused (closed (refused why)) new = new ≡ closed (refused why)
StaysRefused (closed (kept k)) new = Unit {0}
StaysRefused (opened o) new = Unit {0}

pub record IsStepFrom (old : State) (answer : TermValue × State) : Type 0 where
  pub shape : KeepsShape (table_in old) (table_in answer.1)
  pub refused : StaysRefused old answer.1
  pub error : is_error answer.0 ≡ true → IsSameButLedger old answer.1

-- the last sync point at or before a place
pub record IsLastSync (h : History) (place last : ℕ) : Type 0 where
  pub at_most : last ≤ place
  pub synced : is_synced_at h last ≡ true
  pub none_behind : (j : ℕ) → last < j → j ≤ place → is_synced_at h j ≡ false
