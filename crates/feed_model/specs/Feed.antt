-- A feed of terms: what it shows, and what it answers. This project's own.
use Rattle.std.specs.Prelude.{◌≡◌, ℕ, ◌+◌, Bool, false, List, [], ◌++◌, length, drop, ◌⊎◌, Option, Some, None, Result, Ok, Err}
use Rattle.feed_model.specs.declared.fed.Fed.{Fed}
use Rattle.feed_model.specs.declared.fed.Fed.TheVariants.{Term, Again, End}
use Rattle.feed_model.specs.Meaning.{goes_on, ends, breaks, InFront, a_term, no_term, Meaning}

pub record Feed (F : Type 0) : Type 0 where
  -- the bytes that were fed and of which no term was taken yet
  pub left : List ℕ
  -- the number of bytes of the stream before them
  pub offset : ℕ
  -- no more comes, it was said
  pub finished : Bool
  -- what is answered from now on
  pub fault : Option F

-- nothing was fed yet
abbrev pub empty_feed : {F : Type 0} → Feed F
empty_feed = record { left = []; offset = 0; finished = false; fault = None }

-- the number of bytes of the stream that were fed
abbrev pub total : {F : Type 0} → Feed F → ℕ
total s = s.offset + length s.left

-- this piece was fed
abbrev pub with_piece : {F : Type 0} → Feed F → List ℕ → Feed F
with_piece s piece = record s { left = s.left ++ piece }

-- so many bytes in front were taken
abbrev pub passed : {F : Type 0} → Feed F → ℕ → Feed F
passed s count = record s { left = drop count s.left; offset = s.offset + count }

-- a fault came
abbrev pub failed : {F : Type 0} → Feed F → F → Feed F
failed s fault = record s { fault = Some fault }

-- what stands in front of the bytes that are left
abbrev pub Holds : {F : Type 0} → Meaning F → Feed F → InFront F → Type 0
Holds m s x = m.Stands s.finished s.offset s.left x

-- What is answered where no fault came yet. A term where one stands in front; then it is taken. Where none does: Again where more may
-- come and no rule is broken, End where no more comes and nothing is left, else the fault. Want of memory changes nothing.
abbrev pub Gives : {F : Type 0} → Meaning F → (old new : Feed F) → Result Fed F → Type 0
Gives m old new (Ok (Term t)) = (count : ℕ) × Holds m old (a_term t count) × (new ≡ passed old count)
Gives m old new (Ok Again) = Holds m old (no_term goes_on) × (new ≡ old)
Gives m old new (Ok End) = Holds m old (no_term ends) × (new ≡ old)
Gives m old new (Err fault) = (Holds m old (no_term (breaks fault)) × (new ≡ failed old fault)) ⊎ ((fault ≡ m.memory) × (new ≡ old))

-- a fault that came is answered again
abbrev pub gives_behind : {F : Type 0} → Option F → Meaning F → (old new : Feed F) → Result Fed F → Type 0
gives_behind None m old new answer = Gives m old new answer
gives_behind (Some fault) m old new answer = (answer ≡ Err fault) × (new ≡ old)

abbrev pub IsNext : {F : Type 0} → Meaning F → (old new : Feed F) → Result Fed F → Type 0
IsNext m old new answer = gives_behind old.fault m old new answer
