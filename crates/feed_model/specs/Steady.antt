-- What lemmas on feeds ask of a meaning.
use Rattle.std.specs.Prelude.{◌≡◌, ◌≢◌, ℕ, ◌≤◌, ◌<◌, Bool, true, false, List, [], ◌++◌, length}
use Rattle.dets_term.specs.TermValue.{TermValue}
use Rattle.feed_model.specs.Meaning.{goes_on, ends, breaks, InFront, a_term, no_term, Meaning}

pub record Steady {F : Type 0} (m : Meaning F) : Type 0 where
  -- one thing stands in front
  pub one : (finished : Bool) (start : ℕ) (bytes : List ℕ) (x y : InFront F) → m.Stands finished start bytes x → m.Stands finished start bytes y
      → x ≡ y
  -- and something does
  pub some : (finished : Bool) (start : ℕ) (bytes : List ℕ) → (x : InFront F) × m.Stands finished start bytes x
  -- it stays whatever follows, and whether the input ends then or goes on, but for what may go on
  pub stays : (finished then : Bool) (start : ℕ) (bytes more : List ℕ) (x : InFront F) → x ≢ no_term goes_on
      → (finished ≡ true → (then ≡ true) × (more ≡ [])) → m.Stands finished start bytes x → m.Stands then start (bytes ++ more) x
  -- a term has some of the bytes
  pub within : (finished : Bool) (start : ℕ) (bytes : List ℕ) (t : TermValue) (count : ℕ) → m.Stands finished start bytes (a_term t count)
      → (0 < count) × (count ≤ length bytes)
  -- nothing goes on behind the end of the input
  pub closed : (start : ℕ) (bytes : List ℕ) → m.Stands true start bytes (no_term goes_on) → ⊥
  -- and it does not end before
  pub open_end : (start : ℕ) (bytes : List ℕ) → m.Stands false start bytes (no_term ends) → ⊥
  -- no bytes are short of memory
  pub no_memory : (finished : Bool) (start : ℕ) (bytes : List ℕ) → m.Stands finished start bytes (no_term (breaks m.memory)) → ⊥
