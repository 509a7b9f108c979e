-- The ledger: which runs are held and when a command is full, as the commands alone decide it. A key is the bytes of its
-- canonical spelling. Each definition is this project's own.
use Rattle.std.specs.Prelude.{ℕ, zero, suc, ◌+◌, ◌-◌, ◌*◌, ◌^◌, Bool, cond, not, ◌||◌, ◌==◌, nat_le, nat_lt, List, [], ◌∷◌, ◌++◌, map, filter}
use Rattle.std.specs.Prelude.{filter_map, length, sum_by, bytes_eq, Option, Some, None, option_map, Result, Ok, Err}
use Rattle.std.specs.List.{list_any}
use Rattle.space_model.specs.Least.{least_from}
use Rattle.space_model.specs.Runs.{Run, run, place}
use Rattle.space_model.specs.Sizes.{unit_size, head_size}

-- ---- what a payload needs

-- the least exponent of a block with room for a payload of so many bytes
abbrev pub exponent : ℕ → ℕ
exponent bytes = least_from (λ exp. nat_le (head_size + bytes) (unit_size * 2 ^ exp)) 0 bytes

-- whether a whole segment of so many units has no room for a payload of so many bytes
abbrev pub is_too_large : ℕ → ℕ → Bool
is_too_large segment_units bytes = nat_lt (unit_size * segment_units) (head_size + bytes)

-- ---- the ledger

-- a key with a block in the file
pub record Standing : Type 0 where
  pub key : List ℕ
  pub run : Run

-- a block that is to be written: the bytes of its payload, and its run
pub record Packed : Type 0 where
  pub bytes : ℕ
  pub run : Run

-- a key that waits for the next flush, without a block where it has no object left
pub record Pending : Type 0 where
  pub key : List ℕ
  pub packed : Option Packed

pub record Ledger : Type 0 where
  -- how many segments there may be, how many the file's header has, and how many there are with those added since
  pub max : ℕ
  pub filed : ℕ
  pub segments : ℕ
  pub standing : List Standing
  -- in the order of first touch
  pub pending : List Pending

-- the ledger of a file with these blocks that was just opened, and of one that was just made
abbrev pub opened : ℕ → ℕ → List Standing → Ledger
opened max segments standing = record { max = max; filed = segments; segments = segments; standing = standing; pending = [] }

abbrev pub made : ℕ → Ledger
made max = opened max 0 []

abbrev pub packed_run : Pending → Option Run
packed_run p = option_map (λ q. q.run) p.packed

-- the runs that are held: all standing and all pending ones
abbrev pub held : Ledger → List Run
held l = map (λ s. s.run) l.standing ++ filter_map packed_run l.pending

-- ---- pending keys

abbrev pub is_pending : List Pending → List ℕ → Bool
is_pending pending key = list_any (λ p. bytes_eq p.key key) pending

-- the pending block of a key, if it has one
abbrev pub packed_of : List Pending → List ℕ → Option Packed
packed_of [] key = None
packed_of (p ∷ ps) key = cond (bytes_eq p.key key) p.packed (packed_of ps key)

-- A key gets another pending block or none. A key that is pending keeps its place, and another one comes to the end.
abbrev pub with_pending : List Pending → Pending → List Pending
with_pending [] new = new ∷ []
with_pending (p ∷ ps) new = cond (bytes_eq p.key new.key) (new ∷ ps) (p ∷ with_pending ps new)

-- ---- serving one touched key

-- a place, and the number of segments with it
pub record Placed : Type 0 where
  pub segments : ℕ
  pub unit : ℕ

abbrev pub or_grown : Option ℕ → ℕ → (ℕ → Option Placed) → Option Placed
or_grown (Some unit) segments grown = Some (record { segments = segments; unit = unit })
or_grown None segments grown = grown (segments + 1)

-- the place of a run, where segments are added one at a time as long as there is none, so many at most
abbrev pub place_growing : ℕ → List Run → ℕ → ℕ → ℕ → Option Placed
place_growing segment_units runs exp segments zero = or_grown (place segment_units segments runs exp) segments (λ grown. None)
place_growing segment_units runs exp segments (suc more) =
    or_grown (place segment_units segments runs exp) segments (λ grown. place_growing segment_units runs exp grown more)

-- a touched key, and the bytes of its new payload, none where no object is left
pub record Touch : Type 0 where
  pub key : List ℕ
  pub bytes : Option ℕ

abbrev pub pending_at : List ℕ → ℕ → Run → Pending
pending_at key bytes at = record { key = key; packed = Some (record { bytes = bytes; run = at }) }

abbrev pub served_at : Ledger → List ℕ → ℕ → ℕ → Option Placed → Result Ledger ℕ
served_at l key bytes exp None = Err exp
served_at l key bytes exp (Some at) =
    Ok (record l { segments = at.segments; pending = with_pending l.pending (pending_at key bytes (run at.unit exp)) })

-- the run of a pending block of this exponent
abbrev pub kept_run : Option Packed → ℕ → Option Run
kept_run None exp = None
kept_run (Some q) exp = cond (q.run.exp == exp) (Some q.run) None

-- A pending run of the exponent stays. Else the new run is placed while all runs are held, the key's old pending one too.
abbrev pub served_with : ℕ → Ledger → List ℕ → ℕ → ℕ → Option Run → Result Ledger ℕ
served_with segment_units l key bytes exp (Some kept) = Ok (record l { pending = with_pending l.pending (pending_at key bytes kept) })
served_with segment_units l key bytes exp None =
    served_at l key bytes exp (place_growing segment_units (held l) exp l.segments (l.max - l.segments))

abbrev pub served : ℕ → Ledger → List ℕ → Option ℕ → Result Ledger ℕ
served segment_units l key None = Ok (record l { pending = with_pending l.pending (record { key = key; packed = None }) })
served segment_units l key (Some bytes) = served_with segment_units l key bytes (exponent bytes) (kept_run (packed_of l.pending key) (exponent bytes))

-- the ledger after a touched key is served, or the exponent for which it is full
abbrev pub serve : ℕ → Ledger → Touch → Result Ledger ℕ
serve segment_units l touch = served segment_units l touch.key touch.bytes

-- ---- serving a command

abbrev pub after_served : Result Ledger ℕ → (Ledger → Result Ledger ℕ) → Result Ledger ℕ
after_served (Ok l) next = next l
after_served (Err exp) next = Err exp

-- the same of the touched keys of a command, in order
abbrev pub serve_all : ℕ → Ledger → List Touch → Result Ledger ℕ
serve_all segment_units l [] = Ok l
serve_all segment_units l (t ∷ ts) = after_served (serve segment_units l t) (λ next. serve_all segment_units next ts)

-- where a command is full all segments are added, and else the ledger is as before
abbrev pub or_before : Ledger → Result Ledger ℕ → Ledger
or_before l (Ok new) = new
or_before l (Err exp) = record l { segments = l.max }

-- the ledger after a command
abbrev pub after_command : ℕ → Ledger → List Touch → Ledger
after_command segment_units l touches = or_before l (serve_all segment_units l touches)

-- ---- the limit, and the flush

abbrev pub block_bytes : Option Packed → ℕ
block_bytes None = 0
block_bytes (Some q) = head_size + q.bytes

-- at least 4,096 pending keys, or 1,048,576 bytes of pending blocks
abbrev pub is_at_limit : Ledger → Bool
is_at_limit l = nat_le 4096 (length l.pending) || nat_le 1048576 (sum_by (λ p. block_bytes p.packed) l.pending)

abbrev pub standing_of : Pending → Option Standing
standing_of p = option_map (λ at. record { key = p.key; run = at }) (packed_run p)

-- the run of each pending key becomes its standing one, or it has none, and the other keys keep theirs
abbrev pub flushed_standing : List Standing → List Pending → List Standing
flushed_standing standing pending = filter (λ s. not (is_pending pending s.key)) standing ++ filter_map standing_of pending

abbrev pub flush : Ledger → Ledger
flush l = record l { filed = l.segments; standing = flushed_standing l.standing l.pending; pending = [] }

-- a changing command that is not refused for its form or access begins so
abbrev pub flush_at_limit : Ledger → Ledger
flush_at_limit l = cond (is_at_limit l) (flush l) l
