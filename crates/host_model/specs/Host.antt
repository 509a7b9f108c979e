-- What a host shows, and what its calls do to that. All of it is this project's own.
use Rattle.std.specs.Prelude.{◌≡◌, ◌≤◌, ◌<◌, ◌+◌, ◌^◌, ◌++◌, ◌⊎◌, ◌↔◌, ℕ, Bool, List, [], ◌∷◌, length, take, Option, Some, option_map, IsTrue}
use Rattle.host_model.specs.Counts.{raised}
use Rattle.host_model.specs.Disk.{Range, range, IsImage, are_bytes, WhereTold}

-- what a stop leaves: an image of the file, and the output up to there
pub record Left : Type 0 where
  pub image : List ℕ
  pub output : List ℕ

-- all that a host shows of itself
pub record Shown : Type 1 where
  -- the file as it reads, and the output said so far, where the host tells them
  pub file : Option (List ℕ)
  pub said : Option (List ℕ)
  -- Whether it tells its stops. Where it does not, a stop is not said to leave anything.
  pub tells_stops : Bool
  -- what a stop now leaves, and what a stop at some moment since then may have left
  pub may_leave : Left → Type 0
  pub left_since : ℕ → Left → Type 0
  -- where stops are told: how many calls moved the clock, and how many calls of `read_at` were made
  pub clock : ℕ
  pub reads : ℕ
  -- how many disk calls failed, and how many pieces of output
  pub disk_faults : ℕ
  pub out_faults : ℕ

-- what always holds of what a host shows
pub record IsCoherent (h : Shown) : Type 0 where
  pub now_left : IsTrue h.tells_stops → (f o : List ℕ) → h.file ≡ Some f → h.said ≡ Some o
      → h.may_leave (record { image = f; output = o })
  pub outputs : (c : Left) → h.may_leave c → WhereTold h.said (λ o. c.output ≡ o)
  -- since now: what is left now; since a moment: also what was left since each later one
  pub counts_now : (c : Left) → h.may_leave c → h.left_since h.clock c
  pub only_now : (c : Left) → h.left_since h.clock c → h.may_leave c
  pub earlier : (s t : ℕ) (c : Left) → s ≤ t → h.left_since t c → h.left_since s c
  pub bytes : (t : ℕ) (c : Left) → h.left_since t c → IsTrue (are_bytes c.image)
  -- the counts are numbers of 64 bits
  pub reads_fit : h.reads < 2 ^ 64
  pub disk_faults_fit : h.disk_faults < 2 ^ 64
  pub out_faults_fit : h.out_faults < 2 ^ 64

-- a stop now leaves only the file as it reads
abbrev pub Settled : Shown → Type 0
Settled h = (c : Left) → h.may_leave c → WhereTold h.file (λ f. c.image ≡ f)

-- ---- effects: what a call in progress does to what a stop leaves

-- writes to these ranges: any bytes in them
pub record TearsIn (ranges : List Range) (old new : Left) : Type 0 where
  pub image : IsImage ranges old.image new.image
  pub output : new.output ≡ old.output

-- one write
abbrev pub Tears : ℕ → ℕ → Left → Left → Type 0
Tears at n = TearsIn (range at n ∷ [])

-- a sync: nothing
abbrev pub Stays : Left → Left → Type 0
Stays old new = new ≡ old

-- an output grew by a front of the piece
pub record IsGrown (piece old new : List ℕ) : Type 0 where
  pub count : ℕ
  pub fits : count ≤ length piece
  pub grown : new ≡ old ++ take count piece

-- a `put`: a front of its piece is said
pub record Says (piece : List ℕ) (old new : Left) : Type 0 where
  pub image : new.image ≡ old.image
  pub output : IsGrown piece old.output new.output

-- ---- what a call goes on from

-- an effect led here from what was left before
pub record Reached (effect : Left → Left → Type 0) (before : Left → Type 0) (now : Left) : Type 0 where
  pub start : Left
  pub was_left : before start
  pub done : effect start now

-- all but the counts is as before
pub record Rests (old new : Shown) : Type 0 where
  pub tells : new.tells_stops ≡ old.tells_stops
  pub file : new.file ≡ old.file
  pub said : new.said ≡ old.said
  pub clock : new.clock ≡ old.clock
  pub leaves : (c : Left) → new.may_leave c ↔ old.may_leave c
  pub since : (t : ℕ) (c : Left) → new.left_since t c ↔ old.left_since t c

-- A call that may move the clock goes on from old to new, whatever it answers. It has this effect while it runs.
pub record Goes (effect : Left → Left → Type 0) (old new : Shown) : Type 0 where
  pub tells : new.tells_stops ≡ old.tells_stops
  pub later : old.clock ≤ new.clock
  pub by_one : new.clock ≤ old.clock + 1
  -- after the call, and at some moment of it, a stop leaves only what the effect leads to
  pub after : (c : Left) → new.may_leave c → Reached effect old.may_leave c
  pub during : (t : ℕ) (c : Left) → t ≤ old.clock → new.left_since t c → old.left_since t c ⊎ Reached effect old.may_leave c
  -- what a stop may have left before, it still may
  pub keeps : (t : ℕ) (c : Left) → t ≤ old.clock → old.left_since t c → new.left_since t c
  -- at some moment of a call that moves the clock, a stop leaves all that the effect leads to
  pub reaches : IsTrue old.tells_stops → old.clock < new.clock → (c : Left) → Reached effect old.may_leave c
      → new.left_since old.clock c
  -- a call that does not move the clock has no effect
  pub still : IsTrue old.tells_stops → new.clock ≡ old.clock → Rests old new

-- the clock moved by one, where stops are told
abbrev pub Ticks : Shown → Shown → Type 0
Ticks old new = IsTrue old.tells_stops → new.clock ≡ old.clock + 1

-- one read more was counted, where stops are told; a failed read may be left out
abbrev pub CountsRead : Shown → Shown → Type 0
CountsRead old new = IsTrue old.tells_stops → new.reads ≡ raised old.reads

abbrev pub MayCountRead : Shown → Shown → Type 0
MayCountRead old new = IsTrue old.tells_stops → (new.reads ≡ old.reads) ⊎ (new.reads ≡ raised old.reads)

-- A stop at some moment since old leaves only pairs with P; for a run that began earlier, also what was left before.
pub record LeavesOnly (old new : Shown) (P : Left → Type 0) : Type 0 where
  pub tells : new.tells_stops ≡ old.tells_stops
  pub later : old.clock ≤ new.clock
  pub during : (t : ℕ) (c : Left) → t ≤ old.clock → new.left_since t c → old.left_since t c ⊎ P c

-- the output grew by a front of the piece, where it is told
pub record SaysFront (piece : List ℕ) (old new : Option (List ℕ)) : Type 0 where
  pub count : ℕ
  pub fits : count ≤ length piece
  pub grown : new ≡ option_map (λ output. output ++ take count piece) old
