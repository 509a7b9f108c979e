-- Where the new blocks of the changes of a command are placed, before anything else of a book changes. This project's own.
use Rattle.std.specs.Prelude.{◌≡◌, ◌≢◌, ◌≤◌, ℕ, ◌-◌, if◌then◌else◌, IfSome, List, [], ◌∷◌, Option, Some, None, option_and_then, Result, Ok, Err}
use Rattle.space_model.specs.Sizes.{segment_units}
use Rattle.space_model.specs.Runs.{Run, run}
use Rattle.space_model.specs.Apart.{In}
use Rattle.space_model.specs.Ledger.{Placed, place_growing}
use Rattle.file_model.specs.declared.block.Packed.{Packed}
use Rattle.file_model.specs.declared.entry.Entry.{Entry}
use Rattle.write_cache.specs.declared.pending.Pending.{Pending}
use Rattle.write_cache.specs.Waiting.{Waiting, state_of}
use Rattle.buddy_space.specs.SpaceState.{SpaceState, most_segments, largest_exp, held, is_free_run, IsParted, taking, giving}
use Rattle.book_model.specs.declared.change.Change.{Change}
use Rattle.book_model.specs.Book.{entry_run, pending_entry}
use Rattle.book_model.specs.Planning.{kept_unit}
use Rattle.flush_engine.specs.declared.fault.PlanFault.{PlanFault}
use Rattle.flush_engine.specs.declared.fault.PlanFault.TheVariants.{Full}

abbrev pub in_segments : ℕ → SpaceState → SpaceState
in_segments segments s = record s { segments = segments }

-- the place of a new run in a space that may grow to so many segments
abbrev pub place_in : ℕ → SpaceState → ℕ → Option Placed
place_in most s exp = place_growing segment_units (held s) exp s.segments (most - s.segments)

-- the space with the new run
abbrev pub placed_run : SpaceState → ℕ → Placed → SpaceState
placed_run s exp at = taking (in_segments at.segments s) (run at.unit exp)

-- a space in which a change has its place, and the first unit of the new block, 0 where it has none
pub record Placing : Type 0 where
  pub space : SpaceState
  pub unit : ℕ

-- the block that a key which waits has
abbrev pub block_of : Option Pending → Option Entry
block_of earlier = option_and_then pending_entry earlier

-- a run does not begin where that block does
abbrev pub BeginsElsewhere : Run → Option Entry → Type 0
BeginsElsewhere r None = Unit {0}
BeginsElsewhere r (Some e) = r.unit ≢ e.unit

-- its run is given back
abbrev pub giving_up : Option Entry → SpaceState → SpaceState
giving_up None s = s
giving_up (Some e) s = giving s (entry_run e)

abbrev pub placed_at : Option Entry → SpaceState → ℕ → Option Placed → Result Placing ℕ
placed_at old s exp None = Err exp
placed_at old s exp (Some at) = Ok (record { space = giving_up old (placed_run s exp at); unit = at.unit })

abbrev pub placed_with : ℕ → Option Entry → SpaceState → ℕ → Option ℕ → Result Placing ℕ
placed_with most old s exp (Some unit) = Ok (record { space = s; unit = unit })
placed_with most old s exp None = placed_at old s exp (place_in most s exp)

-- Of a key that waits in this state, or does not: a pending block of the exponent stays. Else the new run is placed while the
-- old one is held, which is then given back.
abbrev pub placed : ℕ → Option Pending → SpaceState → Option Packed → Result Placing ℕ
placed most earlier s None = Ok (record { space = giving_up (block_of earlier) s; unit = 0 })
placed most earlier s (Some p) = placed_with most (block_of earlier) s p.exp (kept_unit earlier p.exp)

-- what a call makes of a space, and answers, where the definition gives this
abbrev pub IsPlaced : Result Placing ℕ → (most : ℕ) (old new : SpaceState) → Result ℕ PlanFault → Type 0
IsPlaced (Ok at) most old new result = (result ≡ Ok at.unit) × (new ≡ at.space)
IsPlaced (Err exp) most old new result = (result ≡ Err (Full exp)) × (new ≡ in_segments most old)

-- ---- of the changes of a command, in order

-- the space, and the first unit of each new block
pub record Places : Type 0 where
  pub space : SpaceState
  pub units : List ℕ

abbrev pub with_unit : ℕ → Result Places ℕ → Result Places ℕ
with_unit unit (Ok p) = Ok (record { space = p.space; units = unit ∷ p.units })
with_unit unit (Err exp) = Err exp

abbrev pub then_placed : Result Placing ℕ → (SpaceState → Result Places ℕ) → Result Places ℕ
then_placed (Ok at) rest = with_unit at.unit (rest at.space)
then_placed (Err exp) rest = Err exp

-- the keys that wait are those of the book before the command
abbrev pub all_placed : ℕ → Waiting → SpaceState → List Change → Result Places ℕ
all_placed most w s [] = Ok (record { space = s; units = [] })
all_placed most w s (c ∷ cs) = then_placed (placed most (state_of w c.key) s c.next) (λ next. all_placed most w next cs)

-- ---- undone

-- the run of a block that was given back is taken again
abbrev pub reclaimed : Option Entry → SpaceState → SpaceState
reclaimed None s = s
reclaimed (Some e) s = if is_free_run s (entry_run e) then taking s (entry_run e) else s

-- A change of a key that waits so, or does not, was placed in a space, which has come to this by it: as it was then, with as
-- many segments or more.
pub record WasPlaced (earlier : Option Pending) (next : Option Packed) (unit : ℕ) (s now : SpaceState) : Type 0 where
  pub parted : IsParted s
  pub block : IfSome (block_of earlier) (λ e. In (entry_run e) s.taken)
  pub exp : IfSome next (λ p. p.exp ≤ largest_exp)
  pub most : ℕ
  pub at : Placing
  pub placed_so : placed most earlier s next ≡ Ok at
  pub unit_is : at.unit ≡ unit
  pub grown : at.space.segments ≤ now.segments
  pub fits : now.segments ≤ most_segments
  pub since : now ≡ in_segments now.segments at.space
