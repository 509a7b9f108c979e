-- The keys that wait, of which one gets another state.
use Rattle.std.proofs.Common.{◌≡◌, ◌⊎◌, inl, inr, ⊎_elim, ℕ, Bool, true, false, cond, List, [], ◌∷◌, Option, Some, None, refl, sym, ap, ◌∙◌, subst}
use Rattle.std.specs.Prelude.{bytes_eq}
use Rattle.std.specs.List.{IsDistinct, AllByRecursion}
use Rattle.std.specs.Cmp.Lexicographic.{nat_list_eq_equiv}
use Rattle.std.proofs.lemmas.Bool.{both_ways}
use Rattle.std.proofs.lemmas.Slice.Eq.{bytes_eq-Decides}
use Rattle.space_model.specs.Apart.{In, Pairs}
use Rattle.write_cache.specs.declared.pending.Pending.{Pending}
use Rattle.write_cache.specs.Waiting.{Waiting, keys_of, state_of, with_state, HasDistinctKeys}
use Rattle.book_model.proofs.Members.{two_of}

abbrev pub Touched : Type 0
Touched = List ℕ × Pending

abbrev pub OtherWaits : Touched → Touched → Type 0
OtherWaits e f = bytes_eq e.0 f.0 ≡ false

-- ---- keys

pub flips : (a b : List ℕ) → bytes_eq a b ≡ bytes_eq b a
flips a b = nat_list_eq_equiv.symm a b

pub same_key : (a b : List ℕ) → bytes_eq a b ≡ true → a ≡ b
same_key a b e = (bytes_eq-Decides a b).0 e

pub key_self : (a : List ℕ) → bytes_eq a a ≡ true
key_self a = (bytes_eq-Decides a a).1 refl

pub other_key : (a b : List ℕ) → bytes_eq a b ≡ false → a ≡ b → ⊥
other_key a b e same = both_ways _ e ((bytes_eq-Decides a b).1 same)

-- ---- each key once

apart_in : (x : List ℕ) (w : Waiting) (q : Touched) → AllByRecursion (λ y. bytes_eq x y ≡ false) (keys_of w) → In q w → bytes_eq x q.0 ≡ false
apart_in x [] q apart a = absurd a
apart_in x (e ∷ es) q apart a =
    ⊎_elim (λ here. subst (λ (p : Touched). bytes_eq x p.0 ≡ false) here apart.0) (λ later. apart_in x es q apart.1 later) a

pub distinct_pairs : (w : Waiting) → HasDistinctKeys w → Pairs OtherWaits w
unfolding IsDistinct
distinct_pairs [] distinct = tt
distinct_pairs (e ∷ es) distinct = (λ q a. apart_in e.0 es q distinct.0 a, distinct_pairs es distinct.1)

-- the state of a key that waits is the one with this key
pub one_of_key : (w : Waiting) (e f : Touched) → HasDistinctKeys w → In e w → In f w → e.0 ≡ f.0 → e ≡ f
one_of_key w e f distinct a b same = ⊎_elim
    (λ one. one)
    (λ apart. ⊎_elim (λ x. absurd (other_key e.0 f.0 x same)) (λ x. absurd (other_key f.0 e.0 x (sym same))) apart)
    (two_of OtherWaits w e f (distinct_pairs w distinct) a b)

-- ---- states

found_first : (b : Bool) (e : Touched) (es : Waiting) (key : List ℕ) (s : Pending) → bytes_eq e.0 key ≡ b → cond b (Some e.1) (state_of es key) ≡ Some s
    → (state_of es key ≡ Some s → In (key, s) es) → In (key, s) (e ∷ es)
found_first true e es key s is has go =
    let state : e.1 ≡ s = cc has in
    inl (λ i. (same_key e.0 key is i, state i))
found_first false e es key s is has go = inr (go has)

pub found_in : (w : Waiting) (key : List ℕ) (s : Pending) → state_of w key ≡ Some s → In (key, s) w
found_in [] key s has = absurd (cc has)
found_in (e ∷ es) key s has = found_first (bytes_eq e.0 key) e es key s refl has (λ later. found_in es key s later)

none_first : (b : Bool) (e : Touched) (key : List ℕ) (rest : Option Pending) → bytes_eq e.0 key ≡ b → cond b (Some e.1) rest ≡ None
    → (bytes_eq e.0 key ≡ false) × (rest ≡ None)
none_first true e key rest is none = absurd (cc none)
none_first false e key rest is none = (is, none)

pub none_in : (w : Waiting) (key : List ℕ) (e : Touched) → state_of w key ≡ None → In e w → bytes_eq e.0 key ≡ false
none_in [] key e none a = absurd a
none_in (f ∷ fs) key e none a =
    let p = none_first (bytes_eq f.0 key) f key (state_of fs key) refl none in
    ⊎_elim (λ here. subst (λ (x : Touched). bytes_eq x.0 key ≡ false) here p.0) (λ later. none_in fs key e p.1 later) a

pub state_in : (w : Waiting) (e : Touched) → HasDistinctKeys w → In e w → state_of w e.0 ≡ Some e.1
unfolding IsDistinct
state_in [] e distinct a = absurd a
state_in (f ∷ fs) e distinct a = ⊎_elim
    (λ here. subst (λ (x : Touched). cond (bytes_eq f.0 x.0) (Some f.1) (state_of fs x.0) ≡ Some x.1) here
    (ap (λ b. cond b (Some f.1) (state_of fs f.0)) (key_self f.0)))
    (λ later. ap (λ b. cond b (Some f.1) (state_of fs e.0)) (apart_in f.0 fs e distinct.0 later) ∙ state_in fs e distinct.1 later)
    a

-- ---- one more state

put_first : (b : Bool) (e : Touched) (es rest : Waiting) (key : List ℕ) (s : Pending) → bytes_eq e.0 key ≡ b → In (key, s) rest
    → In (key, s) (cond b ((e.0, s) ∷ es) (e ∷ rest))
put_first true e es rest key s is go = inl (λ i. (same_key e.0 key is i, s))
put_first false e es rest key s is go = inr go

pub put_in : (w : Waiting) (key : List ℕ) (s : Pending) → In (key, s) (with_state w key s)
put_in [] key s = inl refl
put_in (e ∷ es) key s = put_first (bytes_eq e.0 key) e es (with_state es key s) key s refl (put_in es key s)

kept_first : (b : Bool) (e : Touched) (es rest : Waiting) (key : List ℕ) (s : Pending) (x : Touched) → bytes_eq e.0 key ≡ b → bytes_eq x.0 key ≡ false
    → In x (e ∷ es) → (In x es → In x rest) → In x (cond b ((e.0, s) ∷ es) (e ∷ rest))
kept_first true e es rest key s x is other a go = ⊎_elim
    (λ here. absurd (other_key x.0 key other (ap (λ (y : Touched). y.0) (sym here) ∙ same_key e.0 key is)))
    (λ later. inr later)
    a
kept_first false e es rest key s x is other a go = ⊎_elim (λ here. inl here) (λ later. inr (go later)) a

pub others_in : (w : Waiting) (key : List ℕ) (s : Pending) (x : Touched) → bytes_eq x.0 key ≡ false → In x w → In x (with_state w key s)
others_in [] key s x other a = absurd a
others_in (e ∷ es) key s x other a =
    kept_first (bytes_eq e.0 key) e es (with_state es key s) key s x refl other a (λ later. others_in es key s x other later)

-- a member that was put, or another one that was there
abbrev pub PutOrOther : Waiting → List ℕ → Pending → Touched → Type 0
PutOrOther w key s x = (x ≡ (key, s)) ⊎ (In x w × (bytes_eq x.0 key ≡ false))

was_first : (b : Bool) (e : Touched) (es rest : Waiting) (key : List ℕ) (s : Pending) (x : Touched) → bytes_eq e.0 key ≡ b
    → ((y : Touched) → In y es → bytes_eq e.0 y.0 ≡ false) → In x (cond b ((e.0, s) ∷ es) (e ∷ rest)) → (In x rest → PutOrOther es key s x)
    → PutOrOther (e ∷ es) key s x
was_first true e es rest key s x is apart a go = ⊎_elim
    (λ here. inl (sym here ∙ (λ i. (same_key e.0 key is i, s))))
    (λ later. inr (inr later, flips x.0 key ∙ subst (λ (k : List ℕ). bytes_eq k x.0 ≡ false) (same_key e.0 key is) (apart x later)))
    a
was_first false e es rest key s x is apart a go = ⊎_elim
    (λ here. inr (inl here, subst (λ (y : Touched). bytes_eq y.0 key ≡ false) here is))
    (λ later. ⊎_elim (λ own. inl own) (λ other. inr (inr other.0, other.1)) (go later))
    a

in_put_pairs : (w : Waiting) (key : List ℕ) (s : Pending) (x : Touched) → Pairs OtherWaits w → In x (with_state w key s) → PutOrOther w key s x
in_put_pairs [] key s x pairs a = ⊎_elim (λ here. inl (sym here)) (λ none. absurd none) a
in_put_pairs (e ∷ es) key s x pairs a =
    was_first (bytes_eq e.0 key) e es (with_state es key s) key s x refl pairs.0 a (λ later. in_put_pairs es key s x pairs.1 later)

pub in_put : (w : Waiting) (key : List ℕ) (s : Pending) (x : Touched) → HasDistinctKeys w → In x (with_state w key s) → PutOrOther w key s x
in_put w key s x distinct a = in_put_pairs w key s x (distinct_pairs w distinct) a

-- ---- relations of members

pairs_first : (R : Touched → Touched → Type 0) (b : Bool) (e : Touched) (es : Waiting) (key : List ℕ) (s : Pending) → bytes_eq e.0 key ≡ b
    → Pairs OtherWaits (e ∷ es) → Pairs R (e ∷ es)
    → ((x : Touched) → In x (e ∷ es) → bytes_eq x.0 key ≡ false → R x (key, s) × R (key, s) x)
    → Pairs R (with_state es key s) → Pairs R (cond b ((e.0, s) ∷ es) (e ∷ with_state es key s))
pairs_first R true e es key s is keys old own new = (
  λ y a. subst (λ (k : List ℕ). R (k, s) y) (sym (same_key e.0 key is)) (own y (inr a)
      (flips y.0 key ∙ subst (λ (k : List ℕ). bytes_eq k y.0 ≡ false) (same_key e.0 key is) (keys.0 y a))).1,
  old.1,
)
pairs_first R false e es key s is keys old own new = (
  λ y a. ⊎_elim
      (λ put. subst (λ z. R e z) (sym put) (own e (inl refl) is).0)
      (λ other. old.0 y other.0)
      (in_put_pairs es key s y keys.1 a),
  new,
)

put_pairs_by : (R : Touched → Touched → Type 0) (w : Waiting) (key : List ℕ) (s : Pending) → Pairs OtherWaits w → Pairs R w
    → ((x : Touched) → In x w → bytes_eq x.0 key ≡ false → R x (key, s) × R (key, s) x) → Pairs R (with_state w key s)
put_pairs_by R [] key s keys old own = ((λ y a. absurd a), tt)
put_pairs_by R (e ∷ es) key s keys old own = pairs_first R (bytes_eq e.0 key) e es key s refl keys old own
    (put_pairs_by R es key s keys.1 old.1 (λ x a other. own x (inr a) other))

pub put_pairs : (R : Touched → Touched → Type 0) (w : Waiting) (key : List ℕ) (s : Pending) → HasDistinctKeys w → Pairs R w
    → ((x : Touched) → In x w → bytes_eq x.0 key ≡ false → R x (key, s) × R (key, s) x) → Pairs R (with_state w key s)
put_pairs R w key s distinct old own = put_pairs_by R w key s (distinct_pairs w distinct) old own

-- ---- a state over another one

again_first : (b : Bool) (e : Touched) (es rest : Waiting) (key : List ℕ) (s t : Pending) → bytes_eq e.0 key ≡ b
    → with_state rest key t ≡ with_state es key t
    → with_state (cond b ((e.0, s) ∷ es) (e ∷ rest)) key t ≡ cond b ((e.0, t) ∷ es) (e ∷ with_state es key t)
again_first true e es rest key s t is go = ap (λ b. cond b ((e.0, t) ∷ es) ((e.0, s) ∷ with_state es key t)) is
again_first false e es rest key s t is go = ap (λ b. cond b ((e.0, t) ∷ rest) (e ∷ with_state rest key t)) is ∙ ap (λ (r : Waiting). e ∷ r) go

pub put_again : (w : Waiting) (key : List ℕ) (s t : Pending) → with_state (with_state w key s) key t ≡ with_state w key t
put_again [] key s t = ap (λ b. cond b ((key, t) ∷ []) ((key, s) ∷ (key, t) ∷ [])) (key_self key)
put_again (e ∷ es) key s t = again_first (bytes_eq e.0 key) e es (with_state es key s) key s t refl (put_again es key s t)
