-- Keys with their states, of which one gets another state.
use Rattle.std.proofs.Common.{◌≡◌, ℕ, zero, suc, Bool, true, false, cond, List, [], ◌∷◌, ◌++◌, Option, Some, None, is_some, refl, sym, ap, ◌∙◌, subst}
use Rattle.std.specs.Prelude.{bytes_eq, slice_get}
use Rattle.std.specs.List.{IsDistinct, AllByRecursion}
use Rattle.std.proofs.lemmas.Option.{none-some, same_Some}
use Rattle.write_cache.specs.declared.pending.Pending.{Pending}
use Rattle.write_cache.specs.Waiting.{Waiting, keys_of, states_of, state_of, with_state, HasDistinctKeys}
use Rattle.write_cache.proofs.Keys.{same_key, key_self}

abbrev Touched : Type 0
Touched = List ℕ × Pending

-- ---- the last state

last_first : (b : Bool) (e : Touched) (es rest : Waiting) (key : List ℕ) (s : Pending) → bytes_eq e.0 key ≡ b → state_of rest key ≡ Some s
    → state_of (cond b ((e.0, s) ∷ es) (e ∷ rest)) key ≡ Some s
last_first true e es rest key s is h = ap (λ b. cond b (Some s) (state_of es key)) is
last_first false e es rest key s is h = ap (λ b. cond b (Some e.1) (state_of rest key)) is ∙ h

pub last_state : (w : Waiting) (key : List ℕ) (s : Pending) → state_of (with_state w key s) key ≡ Some s
last_state [] key s = ap (λ b. cond b (Some s) None) (key_self key)
last_state (e ∷ es) key s = last_first (bytes_eq e.0 key) e es (with_state es key s) key s refl (last_state es key s)

-- ---- the states of other keys

other_first : (b : Bool) (e : Touched) (es rest : Waiting) (key other : List ℕ) (s : Pending) → bytes_eq e.0 key ≡ b → bytes_eq key other ≡ false
    → state_of rest other ≡ state_of es other
    → state_of (cond b ((e.0, s) ∷ es) (e ∷ rest)) other ≡ cond (bytes_eq e.0 other) (Some e.1) (state_of es other)
other_first true e es rest key other s is apart h =
    let here : bytes_eq e.0 other ≡ false = subst (λ (k : List ℕ). bytes_eq k other ≡ false) (sym (same_key e.0 key is)) apart in
    ap (λ b. cond b (Some s) (state_of es other)) here ∙ sym (ap (λ b. cond b (Some e.1) (state_of es other)) here)
other_first false e es rest key other s is apart h = ap (λ o. cond (bytes_eq e.0 other) (Some e.1) o) h

pub other_states : (w : Waiting) (key other : List ℕ) (s : Pending) → bytes_eq key other ≡ false → state_of (with_state w key s) other ≡ state_of w other
other_states [] key other s apart = ap (λ b. cond b (Some s) None) apart
other_states (e ∷ es) key other s apart =
    other_first (bytes_eq e.0 key) e es (with_state es key s) key other s refl apart (other_states es key other s apart)

-- ---- the order of first touch

inside : (b : Bool) (k : List ℕ) (xs ys : List (List ℕ)) → k ∷ cond b xs ys ≡ cond b (k ∷ xs) (k ∷ ys)
inside true k xs ys = refl
inside false k xs ys = refl

order_first : (b : Bool) (e : Touched) (es rest : Waiting) (key : List ℕ) (s : Pending) (o : Option Pending)
    → keys_of rest ≡ cond (is_some o) (keys_of es) (keys_of es ++ key ∷ [])
    → keys_of (cond b ((e.0, s) ∷ es) (e ∷ rest)) ≡ cond (is_some (cond b (Some e.1) o)) (keys_of (e ∷ es)) (keys_of (e ∷ es) ++ key ∷ [])
order_first true e es rest key s o h = refl
order_first false e es rest key s o h =
    ap (λ (ks : List (List ℕ)). e.0 ∷ ks) h ∙ inside (is_some o) e.0 (keys_of es) (keys_of es ++ key ∷ [])

pub order_kept : (w : Waiting) (key : List ℕ) (s : Pending) → keys_of (with_state w key s) ≡ cond (is_some (state_of w key)) (keys_of w) (keys_of w ++ key ∷ [])
order_kept [] key s = refl
order_kept (e ∷ es) key s = order_first (bytes_eq e.0 key) e es (with_state es key s) key s (state_of es key) (order_kept es key s)

-- ---- each key once

apart_first : (b : Bool) (x : List ℕ) (e : Touched) (es rest : Waiting) (s : Pending) → AllByRecursion (λ y. bytes_eq x y ≡ false) (keys_of (e ∷ es))
    → AllByRecursion (λ y. bytes_eq x y ≡ false) (keys_of rest) → AllByRecursion (λ y. bytes_eq x y ≡ false) (keys_of (cond b ((e.0, s) ∷ es) (e ∷ rest)))
apart_first true x e es rest s old new = old
apart_first false x e es rest s old new = (old.0, new)

apart_put : (x : List ℕ) (w : Waiting) (key : List ℕ) (s : Pending) → bytes_eq x key ≡ false → AllByRecursion (λ y. bytes_eq x y ≡ false) (keys_of w)
    → AllByRecursion (λ y. bytes_eq x y ≡ false) (keys_of (with_state w key s))
apart_put x [] key s apart old = (apart, tt)
apart_put x (e ∷ es) key s apart old = apart_first (bytes_eq e.0 key) x e es (with_state es key s) s old (apart_put x es key s apart old.1)

distinct_first : (b : Bool) (e : Touched) (es : Waiting) (key : List ℕ) (s : Pending) → bytes_eq e.0 key ≡ b → IsDistinct bytes_eq (keys_of (e ∷ es))
    → IsDistinct bytes_eq (keys_of (with_state es key s)) → IsDistinct bytes_eq (keys_of (cond b ((e.0, s) ∷ es) (e ∷ with_state es key s)))
unfolding IsDistinct
distinct_first true e es key s is old new = old
distinct_first false e es key s is old new = (apart_put e.0 es key s is old.0, new)

pub distinct_kept : (w : Waiting) (key : List ℕ) (s : Pending) → HasDistinctKeys w → HasDistinctKeys (with_state w key s)
unfolding IsDistinct
distinct_kept [] key s old = (tt, tt)
distinct_kept (e ∷ es) key s old = distinct_first (bytes_eq e.0 key) e es key s refl old (distinct_kept es key s old.1)

-- ---- places

apart_at : (x key : List ℕ) (w : Waiting) (place : ℕ) → AllByRecursion (λ y. bytes_eq x y ≡ false) (keys_of w) → slice_get (keys_of w) place ≡ Some key
    → bytes_eq x key ≡ false
apart_at x key [] place apart is = absurd (none-some key is)
apart_at x key (e ∷ es) zero apart is = subst (λ (k : List ℕ). bytes_eq x k ≡ false) (same_Some e.0 key is) apart.0
apart_at x key (e ∷ es) (suc place) apart is = apart_at x key es place apart.1 is

pub state_at : (w : Waiting) (place : ℕ) (key : List ℕ) (s : Pending) → HasDistinctKeys w → slice_get (keys_of w) place ≡ Some key
    → slice_get (states_of w) place ≡ Some s → state_of w key ≡ Some s
unfolding IsDistinct
state_at [] place key s distinct is has = absurd (none-some key is)
state_at (e ∷ es) zero key s distinct is has =
    ap (λ b. cond b (Some e.1) (state_of es key)) (subst (λ (k : List ℕ). bytes_eq e.0 k ≡ true) (same_Some e.0 key is) (key_self e.0)) ∙ has
state_at (e ∷ es) (suc place) key s distinct is has =
    ap (λ b. cond b (Some e.1) (state_of es key)) (apart_at e.0 key es place distinct.0 is) ∙ state_at es place key s distinct.1 is has

abbrev pub IsPlaceOf : Waiting → List ℕ → Pending → ℕ → Type 0
IsPlaceOf w key s place = (slice_get (keys_of w) place ≡ Some key) × (slice_get (states_of w) place ≡ Some s)

place_first : (b : Bool) (e : Touched) (es : Waiting) (key : List ℕ) (s : Pending) → bytes_eq e.0 key ≡ b → cond b (Some e.1) (state_of es key) ≡ Some s
    → (state_of es key ≡ Some s → (place : ℕ) × IsPlaceOf es key s place) → (place : ℕ) × IsPlaceOf (e ∷ es) key s place
place_first true e es key s is has go = (0, (ap (λ (k : List ℕ). Some k) (same_key e.0 key is), has))
place_first false e es key s is has go = let later = go has in (suc later.0, later.1)

pub place_of : (w : Waiting) (key : List ℕ) (s : Pending) → state_of w key ≡ Some s → (place : ℕ) × IsPlaceOf w key s place
place_of [] key s has = absurd (none-some s has)
place_of (e ∷ es) key s has = place_first (bytes_eq e.0 key) e es key s refl has (place_of es key s)
