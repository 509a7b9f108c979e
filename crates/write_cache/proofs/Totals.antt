-- The bytes of all blocks together, after a key gets another state.
use Rattle.std.proofs.Common.{◌≡◌, ◌≤◌, ◌<◌, ℕ, ◌+◌, ◌-◌, ◌*◌, ◌^◌, Bool, true, false, cond, List, [], ◌∷◌, Option, Some, length, arith}
use Rattle.std.specs.Prelude.{bytes_eq}
use Rattle.std.specs.List.{AllByRecursion}
use Rattle.std.proofs.lemmas.List.Sums.{sum_by-cons}
use Rattle.write_cache.specs.declared.pending.Pending.{Pending}
use Rattle.write_cache.specs.PendingState.{block_length, old_length}
use Rattle.write_cache.specs.Waiting.{Waiting, state_of, with_state, bytes_of, IsKept}

abbrev weight : List ℕ × Pending → ℕ
weight e = block_length e.1

pub bytes_of-cons : (e : List ℕ × Pending) (w : Waiting) → bytes_of (e ∷ w) ≡ block_length e.1 + bytes_of w
bytes_of-cons e w = sum_by-cons weight e w

put_first : (b : Bool) (e : List ℕ × Pending) (es rest : Waiting) (s : Pending) (o : Option Pending) → bytes_of rest + old_length o ≡ bytes_of es + block_length s
    → bytes_of (cond b ((e.0, s) ∷ es) (e ∷ rest)) + old_length (cond b (Some e.1) o) ≡ bytes_of (e ∷ es) + block_length s
put_first true e es rest s o h = omega (arith, bytes_of-cons (e.0, s) es, bytes_of-cons e es)
put_first false e es rest s o h = omega (arith, bytes_of-cons e rest, bytes_of-cons e es)

-- the new block comes, and the old one goes
pub bytes_of-with_state : (w : Waiting) (key : List ℕ) (s : Pending) → bytes_of (with_state w key s) + old_length (state_of w key) ≡ bytes_of w + block_length s
bytes_of-with_state [] key s = omega (arith, bytes_of-cons (key, s) [])
bytes_of-with_state (e ∷ es) key s = put_first (bytes_eq e.0 key) e es (with_state es key s) s (state_of es key) (bytes_of-with_state es key s)

abbrev pub IsShort : List ℕ × Pending → Type 0
IsShort e = block_length e.1 < 2 ^ 64

short_first : (b : Bool) (e : List ℕ × Pending) (es rest : Waiting) (s : Pending) → block_length s < 2 ^ 64 → AllByRecursion IsShort (e ∷ es)
    → AllByRecursion IsShort rest → AllByRecursion IsShort (cond b ((e.0, s) ∷ es) (e ∷ rest))
short_first true e es rest s short old new = (short, old.1)
short_first false e es rest s short old new = (old.0, new)

pub short-with_state : (w : Waiting) (key : List ℕ) (s : Pending) → block_length s < 2 ^ 64 → AllByRecursion IsShort w → AllByRecursion IsShort (with_state w key s)
short-with_state [] key s short old = (short, tt)
short-with_state (e ∷ es) key s short old =
    short_first (bytes_eq e.0 key) e es (with_state es key s) s short old (short-with_state es key s short old.1)

-- short blocks have few bytes together
pub bytes_of-le : (w : Waiting) → AllByRecursion IsShort w → bytes_of w ≤ 2 ^ 64 * length w
bytes_of-le [] short = omega arith
bytes_of-le (e ∷ es) short = let rest = bytes_of-le es short.1 in let here = short.0 in omega (arith, bytes_of-cons e es, rest, here)

-- the total of what is kept, after a key gets another state
pub kept-with_state : (w : Waiting) (total : ℕ) (key : List ℕ) (s : Pending) → IsKept w total → block_length s < 2 ^ 64
    → IsKept (with_state w key s) (total + block_length s - old_length (state_of w key))
kept-with_state w total key s kept short = record {
  total_is = let put = bytes_of-with_state w key s in let is = kept.total_is in omega (arith, put, is);
  short = short-with_state w key s short kept.short;
}
