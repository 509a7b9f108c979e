-- Keys with their pending states, in the order of first touch. A key is the bytes of its canonical spelling. This project's
-- own.
use Rattle.std.specs.Prelude.{◌≡◌, ◌<◌, ◌^◌, ℕ, cond, List, [], ◌∷◌, map, sum_by, bytes_eq, Option, Some, None}
use Rattle.std.specs.List.{IsDistinct, AllByRecursion}
use Rattle.space_model.specs.Ledger.{Pending as LedgerPending}
use Rattle.write_cache.specs.declared.pending.Pending.{Pending}
use Rattle.write_cache.specs.PendingState.{block_length, in_ledger, HasHead}

abbrev pub Waiting : Type 0
Waiting = List (List ℕ × Pending)

abbrev pub keys_of : Waiting → List (List ℕ)
keys_of w = map (λ e. e.0) w

abbrev pub states_of : Waiting → List Pending
states_of w = map (λ e. e.1) w

-- the state of a key, if it is there
abbrev pub state_of : Waiting → List ℕ → Option Pending
state_of [] key = None
state_of (e ∷ es) key = cond (bytes_eq e.0 key) (Some e.1) (state_of es key)

-- A key gets another state. A key that is there keeps its place, and another one comes to the end.
abbrev pub with_state : Waiting → List ℕ → Pending → Waiting
with_state [] key state = (key, state) ∷ []
with_state (e ∷ es) key state = cond (bytes_eq e.0 key) ((e.0, state) ∷ es) (e ∷ with_state es key state)

-- no two keys are the same
abbrev pub HasDistinctKeys : Waiting → Type 0
HasDistinctKeys w = IsDistinct bytes_eq (keys_of w)

-- the bytes of all blocks together
abbrev pub bytes_of : Waiting → ℕ
bytes_of w = sum_by (λ e. block_length e.1) w

-- ---- what the ledger knows

-- its pending list
abbrev pub ledger_of : Waiting → List LedgerPending
ledger_of w = map (λ e. in_ledger e.0 e.1) w

-- each block begins with a whole head
abbrev pub HaveHeads : Waiting → Type 0
HaveHeads w = AllByRecursion (λ e. HasHead e.1) w

-- ---- what a cache keeps

-- the pairs of a map, by the bytes of its keys
abbrev pub seen : {K : Type 0} → List (K × Pending) → (K → List ℕ) → Waiting
seen pairs bytes = map (λ e. (bytes e.0, e.1)) pairs

-- the total of the blocks, of which each has a length below 2 ^ 64
pub record IsKept (w : Waiting) (total : ℕ) : Type 0 where
  pub total_is : total ≡ bytes_of w
  pub short : AllByRecursion (λ e. block_length e.1 < 2 ^ 64) w
