-- When a ledger is in order, and what serving a touched key and a flush leave. This project's own.
use Rattle.std.specs.Prelude.{◌≡◌, ◌≤◌, ◌<◌, ℕ, ◌+◌, ◌*◌, false, cond, List, [], ◌∷◌, ◌++◌, map, bytes_eq, Option, Some, None, Ok}
use Rattle.space_model.specs.Least.{log2}
use Rattle.space_model.specs.Runs.{Run, place}
use Rattle.space_model.specs.Apart.{In, Pairs, Apart, IsRun}
use Rattle.space_model.specs.Ledger.{Standing, Pending, Ledger, Placed, Touch, exponent, held, packed_of, serve_all}

abbrev pub OtherPending : Pending → Pending → Type 0
OtherPending p q = bytes_eq p.key q.key ≡ false

abbrev pub OtherStanding : Standing → Standing → Type 0
OtherStanding s t = bytes_eq s.key t.key ≡ false

-- in segments of so many units
pub record IsInOrder (segment_units : ℕ) (l : Ledger) : Type 0 where
  pub filed : l.filed ≤ l.segments
  pub at_most : l.segments ≤ l.max
  -- each held run lies in the segments, and no two of them meet
  pub runs : (r : Run) → In r (held l) → IsRun (log2 segment_units) (segment_units * l.segments) r
  pub apart : Pairs Apart (held l)
  -- each key is pending once and stands once
  pub pending : Pairs OtherPending l.pending
  pub standing : Pairs OtherStanding l.standing

-- a place with the fewest segments with which there is one, from so many on and so many more at most
pub record IsFirstPlace (segment_units : ℕ) (runs : List Run) (exp segments more : ℕ) (at : Placed) : Type 0 where
  pub least : segments ≤ at.segments
  pub most : at.segments ≤ segments + more
  pub is_place : place segment_units at.segments runs exp ≡ Some at.unit
  pub needed : (fewer : ℕ) → segments ≤ fewer → fewer < at.segments → place segment_units fewer runs exp ≡ None

-- the exponent for which a touched key with this payload is full: its own, which has no place with all segments
pub record IsFull (segment_units : ℕ) (l : Ledger) (bytes : Option ℕ) (exp : ℕ) : Type 0 where
  pub payload : ℕ
  pub bytes_is : bytes ≡ Some payload
  pub exp_is : exp ≡ exponent payload
  pub no_place : place segment_units l.max (held l) exp ≡ None

-- a command of these touched keys is full at one of them, after those before it were served
pub record IsFullAt (segment_units : ℕ) (l : Ledger) (touches : List Touch) (exp : ℕ) : Type 0 where
  pub front : List Touch
  pub touch : Touch
  pub behind : List Touch
  pub parts : touches ≡ front ++ touch ∷ behind
  pub before : Ledger
  pub served : serve_all segment_units l front ≡ Ok before
  pub full : IsFull segment_units before touch.bytes exp

-- a pending key has a payload of so many bytes in a run of its exponent
pub record HasBlock (pending : List Pending) (key : List ℕ) (bytes : ℕ) : Type 0 where
  pub at : Run
  pub exp : at.exp ≡ exponent bytes
  pub found : packed_of pending key ≡ Some (record { bytes = bytes; run = at })

-- the pending keys, in the order of first touch
abbrev pub pending_keys : List Pending → List (List ℕ)
pending_keys pending = map (λ p. p.key) pending

-- the run of a key's block in the file, if it has one
abbrev pub standing_run : List Standing → List ℕ → Option Run
standing_run [] key = None
standing_run (s ∷ ss) key = cond (bytes_eq s.key key) (Some s.run) (standing_run ss key)

-- what serving a key changes, and what it leaves
pub record Serves (old new : Ledger) : Type 0 where
  pub max : new.max ≡ old.max
  pub filed : new.filed ≡ old.filed
  pub standing : new.standing ≡ old.standing
  pub segments : old.segments ≤ new.segments
