-- The ledger's pending list of keys with their states.
use Rattle.std.proofs.Common.{◌≡◌, ◌≤◌, ◌<◌, ⊎_elim, ℕ, ◌-◌, ◌^◌, Bool, true, false, cond, List, [], ◌∷◌, length, Option, Some, None, is_some, refl, sym, ap, ◌∙◌, subst, arith, suc}
use Rattle.std.specs.Prelude.{◌||◌, nat_le, min, bytes_eq, sum_by, IfSome, option_map, option_and_then}
use Rattle.std.specs.List.{IsDistinct, AllByRecursion}
use Rattle.std.proofs.lemmas.Bool.{le-leb, cases_lt}
use Rattle.std.proofs.lemmas.List.Sums.{sum_by-cons}
use Rattle.space_model.specs.Sizes.{head_size}
use Rattle.space_model.specs.Apart.{In, Pairs}
use Rattle.space_model.specs.Ledger.{Ledger, Packed as Payload, Pending as LedgerPending, block_bytes, is_pending, packed_of, with_pending, is_at_limit}
use Rattle.space_model.specs.LedgerOrder.{OtherPending, pending_keys}
use Rattle.file_model.specs.declared.block.Packed.{Packed}
use Rattle.write_cache.specs.declared.pending.Pending.{Pending}
use Rattle.write_cache.specs.PendingState.{length_of, payload_at, in_ledger, HasHead}
use Rattle.write_cache.specs.Waiting.{Waiting, keys_of, state_of, with_state, bytes_of, ledger_of, HasDistinctKeys, HaveHeads}
use Rattle.write_cache.proofs.Keys.{same_key}
use Rattle.write_cache.proofs.Totals.{bytes_of-cons}

abbrev Touched : Type 0
Touched = List ℕ × Pending

-- ---- one more state

put_first : (b : Bool) (e : Touched) (es rest : Waiting) (key : List ℕ) (s : Pending) → bytes_eq e.0 key ≡ b
    → ledger_of rest ≡ with_pending (ledger_of es) (in_ledger key s)
    → ledger_of (cond b ((e.0, s) ∷ es) (e ∷ rest)) ≡ cond b (in_ledger key s ∷ ledger_of es) (in_ledger e.0 e.1 ∷ with_pending (ledger_of es) (in_ledger key s))
put_first true e es rest key s is h = ap (λ (k : List ℕ). in_ledger k s ∷ ledger_of es) (same_key e.0 key is)
put_first false e es rest key s is h = ap (λ (ps : List LedgerPending). in_ledger e.0 e.1 ∷ ps) h

pub ledger_of-with_state : (w : Waiting) (key : List ℕ) (s : Pending) → ledger_of (with_state w key s) ≡ with_pending (ledger_of w) (in_ledger key s)
ledger_of-with_state [] key s = refl
ledger_of-with_state (e ∷ es) key s = put_first (bytes_eq e.0 key) e es (with_state es key s) key s refl (ledger_of-with_state es key s)

-- ---- keys

pub pending_keys-ledger_of : (w : Waiting) → pending_keys (ledger_of w) ≡ keys_of w
pending_keys-ledger_of [] = refl
pending_keys-ledger_of (e ∷ es) = ap (λ (ks : List (List ℕ)). e.0 ∷ ks) (pending_keys-ledger_of es)

apart_in : (x : List ℕ) (w : Waiting) (q : LedgerPending) → AllByRecursion (λ y. bytes_eq x y ≡ false) (keys_of w) → In q (ledger_of w) → bytes_eq x q.key ≡ false
apart_in x [] q apart a = absurd a
apart_in x (e ∷ es) q apart a =
    ⊎_elim (λ here. subst (λ (p : LedgerPending). bytes_eq x p.key ≡ false) here apart.0) (λ later. apart_in x es q apart.1 later) a

pub apart-ledger_of : (w : Waiting) → HasDistinctKeys w → Pairs OtherPending (ledger_of w)
unfolding IsDistinct
apart-ledger_of [] distinct = tt
apart-ledger_of (e ∷ es) distinct = (λ q a. apart_in e.0 es q distinct.0 a, apart-ledger_of es distinct.1)

there_first : (b : Bool) (s : Pending) (o : Option Pending) (later : Bool) → later ≡ is_some o → (b || later) ≡ is_some (cond b (Some s) o)
there_first true s o later h = refl
there_first false s o later h = h

pub is_pending-ledger_of : (w : Waiting) (key : List ℕ) → is_pending (ledger_of w) key ≡ is_some (state_of w key)
is_pending-ledger_of [] key = refl
is_pending-ledger_of (e ∷ es) key = there_first (bytes_eq e.0 key) e.1 (state_of es key) (is_pending (ledger_of es) key) (is_pending-ledger_of es key)

abbrev payload : Pending → Option Payload
payload s = option_map (payload_at s.unit) s.block

block_first : (b : Bool) (s : Pending) (o : Option Pending) (later : Option Payload) → later ≡ option_and_then payload o
    → cond b (payload s) later ≡ option_and_then payload (cond b (Some s) o)
block_first true s o later h = refl
block_first false s o later h = h

pub packed_of-ledger_of : (w : Waiting) (key : List ℕ) → packed_of (ledger_of w) key ≡ option_and_then payload (state_of w key)
packed_of-ledger_of [] key = refl
packed_of-ledger_of (e ∷ es) key = block_first (bytes_eq e.0 key) e.1 (state_of es key) (packed_of (ledger_of es) key) (packed_of-ledger_of es key)

-- ---- bytes

abbrev weight : LedgerPending → ℕ
weight p = block_bytes p.packed

whole_block : (unit : ℕ) (o : Option Packed) → IfSome o (λ p. head_size ≤ length p.block) → block_bytes (option_map (payload_at unit) o) ≡ length_of o
whole_block unit None head = refl
whole_block unit (Some p) head = omega arith

pub bytes-ledger_of : (w : Waiting) → HaveHeads w → sum_by weight (ledger_of w) ≡ bytes_of w
bytes-ledger_of [] heads = refl
bytes-ledger_of (e ∷ es) heads =
    let rest = bytes-ledger_of es heads.1 in
    let here = whole_block e.1.unit e.1.block heads.0 in
    omega (arith, sum_by-cons weight (in_ledger e.0 e.1) (ledger_of es), bytes_of-cons e es, rest, here)

length-ledger_of : (w : Waiting) → length (ledger_of w) ≡ length w
length-ledger_of [] = refl
length-ledger_of (e ∷ es) = ap (λ n. suc n) (length-ledger_of es)

-- a cap above a bound leaves the test with the bound
capped : (bound cap n : ℕ) → bound ≤ cap → nat_le bound n ≡ nat_le bound (min n cap)
capped bound cap n below = ⊎_elim
    (λ (more : cap < n). le-leb bound n (omega arith) ∙ sym (le-leb bound (min n cap) (omega arith)))
    (λ (most : n ≤ cap). let same : min n cap ≡ n = omega arith in ap (nat_le bound) (sym same))
    (cases_lt cap n)

pub limit-ledger_of : (w : Waiting) (l : Ledger) → HaveHeads w → l.pending ≡ ledger_of w
    → is_at_limit l ≡ (nat_le 4096 (length w) || nat_le 1048576 (min (bytes_of w) (2 ^ 64 - 1)))
limit-ledger_of w l heads is =
    ap (λ (ps : List LedgerPending). nat_le 4096 (length ps) || nat_le 1048576 (sum_by weight ps)) is
    ∙ ap (λ n. nat_le 4096 n || nat_le 1048576 (sum_by weight (ledger_of w))) (length-ledger_of w)
    ∙ ap (λ n. nat_le 4096 (length w) || nat_le 1048576 n) (bytes-ledger_of w heads)
    ∙ ap (λ b. nat_le 4096 (length w) || b) (capped 1048576 (2 ^ 64 - 1) (bytes_of w) (omega arith))

-- ---- heads

heads_first : (b : Bool) (e : Touched) (es rest : Waiting) (s : Pending) → HasHead s → HaveHeads (e ∷ es) → HaveHeads rest
    → HaveHeads (cond b ((e.0, s) ∷ es) (e ∷ rest))
heads_first true e es rest s head old new = (head, old.1)
heads_first false e es rest s head old new = (old.0, new)

pub heads_kept : (w : Waiting) (key : List ℕ) (s : Pending) → HaveHeads w → HasHead s → HaveHeads (with_state w key s)
heads_kept [] key s old head = (head, tt)
heads_kept (e ∷ es) key s old head = heads_first (bytes_eq e.0 key) e es (with_state es key s) s head old (heads_kept es key s old.1 head)
