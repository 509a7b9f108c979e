-- What a reader answers, told by its format. This project's own.
use Rattle.std.specs.Prelude.{◌≡◌, ℕ, ◌+◌, Bool, cond, List, Result, Ok, Err, ◌⊎◌, drop}
use Rattle.etf_model.specs.declared.fault.EtfFault.{EtfFault}
use Rattle.etf_model.specs.declared.fault.EtfFault.TheVariants.{Memory}
use Rattle.etf_model.specs.Format.{Format, Position, Reading}

-- the position behind so many of some bytes that begin at an offset
abbrev pub position_at : ℕ → List ℕ → ℕ → Position
position_at start bytes at = record { offset = start + at; left = drop at bytes }

-- an answer beside that of reading: the value and the position behind it, or the fault
abbrev pub ReadsAs : {A : Type 0} → Reading A → Position → Result A EtfFault → Type 0
ReadsAs reading behind (Ok x) = reading ≡ Ok (x, behind)
ReadsAs reading behind (Err fault) = reading ≡ Err fault

-- the value that stands at a position and the position behind it, or the fault there
abbrev pub Reads : {A : Type 0} → Format A → ℕ → Position → Position → Result A EtfFault → Type 0
Reads F term before behind (Ok x) = F.read term before ≡ Ok (x, behind)
Reads F term before behind (Err fault) = F.read term before ≡ Err fault

-- the same, or memory was wanting
abbrev pub ReadsWithin : {A : Type 0} → Format A → ℕ → Position → Position → Result A EtfFault → Type 0
ReadsWithin F term before behind (Ok x) = F.read term before ≡ Ok (x, behind)
ReadsWithin F term before behind (Err fault) = (fault ≡ Memory) ⊎ (F.read term before ≡ Err fault)

-- what reading answers behind a tag that is known, or else the fault
abbrev pub behind_tag : {A : Type 0} → Bool → EtfFault → Format A → ℕ → Position → Reading A
behind_tag known fault F term position = cond known (F.read term position) (Err fault)
