-- Lemmas: pending keys, of which one gets another block.
use Rattle.std.proofs.Common.{◌≡◌, ◌⊎◌, inl, inr, ⊎_elim, ℕ, Bool, true, false, cond, List, [], ◌∷◌, ◌++◌, map, Option, Some, None, refl, sym, ap, ◌∙◌, subst}
use Rattle.std.specs.Prelude.{◌||◌, filter_map, bytes_eq}
use Rattle.std.specs.List.{cons_option}
use Rattle.std.proofs.lemmas.Bool.{false_from_ne_true, both_ways}
use Rattle.std.proofs.lemmas.Slice.Eq.{bytes_eq-Decides}
use Rattle.space_model.specs.Runs.{Run}
use Rattle.space_model.specs.Apart.{In, Pairs}
use Rattle.space_model.specs.Ledger.{Packed, Pending, packed_run, is_pending, packed_of, with_pending}
use Rattle.space_model.specs.LedgerOrder.{OtherPending}
use Rattle.space_model.proofs.Members.{in_option, in_more, option_in, pairs_option, option_first, option_rest}

-- ---- keys

pub same_key : (a b : List ℕ) → bytes_eq a b ≡ true → a ≡ b
same_key a b e = (bytes_eq-Decides a b).0 e

pub key_self : (a : List ℕ) → bytes_eq a a ≡ true
key_self a = (bytes_eq-Decides a a).1 refl

pub other_flips : (a b : List ℕ) → bytes_eq a b ≡ false → bytes_eq b a ≡ false
other_flips a b e = false_from_ne_true _ (λ same. both_ways _ e (subst (λ (c : List ℕ). bytes_eq a c ≡ true) (sym (same_key b a same)) (key_self a)))

-- ---- members

with_first : (b : Bool) (p : Pending) (ps rest : List Pending) (new q : Pending) → In q (cond b (new ∷ ps) (p ∷ rest))
    → (In q rest → (new ≡ q) ⊎ In q ps) → (new ≡ q) ⊎ In q (p ∷ ps)
with_first true p ps rest new q a go = ⊎_elim (λ here. inl here) (λ later. inr (inr later)) a
with_first false p ps rest new q a go = ⊎_elim
    (λ here. inr (inl here)) (λ later. ⊎_elim (λ n. inl n) (λ old. inr (inr old)) (go later)) a

pub in_with_pending : (ps : List Pending) (new q : Pending) → In q (with_pending ps new) → (new ≡ q) ⊎ In q ps
in_with_pending [] new q a = ⊎_elim (λ here. inl here) (λ none. absurd none) a
in_with_pending (p ∷ ps) new q a = with_first (bytes_eq p.key new.key) p ps (with_pending ps new) new q a (in_with_pending ps new q)

-- each key stays pending once
keys_first : (b : Bool) (p : Pending) (ps : List Pending) (new : Pending) → bytes_eq p.key new.key ≡ b → Pairs OtherPending (p ∷ ps)
    → Pairs OtherPending (with_pending ps new) → Pairs OtherPending (cond b (new ∷ ps) (p ∷ with_pending ps new))
keys_first true p ps new e apart rest =
    (λ q a. subst (λ (k : List ℕ). bytes_eq k q.key ≡ false) (same_key p.key new.key e) (apart.0 q a), apart.1)
keys_first false p ps new e apart rest = (
  λ q a. ⊎_elim (λ same. subst (λ (x : Pending). bytes_eq p.key x.key ≡ false) same e) (λ old. apart.0 q old) (in_with_pending ps new q a),
  rest,
)

pub keys_apart : (ps : List Pending) (new : Pending) → Pairs OtherPending ps → Pairs OtherPending (with_pending ps new)
keys_apart [] new apart = (λ q a. absurd a, tt)
keys_apart (p ∷ ps) new apart = keys_first (bytes_eq p.key new.key) p ps new refl apart (keys_apart ps new apart.1)

-- ---- runs

run_first : (b : Bool) (p : Pending) (ps rest : List Pending) (new : Pending) (r : Run) → In r (filter_map packed_run (cond b (new ∷ ps) (p ∷ rest)))
    → (In r (filter_map packed_run rest) → (packed_run new ≡ Some r) ⊎ In r (filter_map packed_run ps))
    → (packed_run new ≡ Some r) ⊎ In r (filter_map packed_run (p ∷ ps))
run_first true p ps rest new r a go = ⊎_elim
    (λ here. inl here) (λ later. inr (in_more (packed_run p) (filter_map packed_run ps) r later)) (in_option (packed_run new) (filter_map packed_run ps) r a)
run_first false p ps rest new r a go = ⊎_elim
    (λ here. inr (option_in (packed_run p) (filter_map packed_run ps) r here))
    (λ later. ⊎_elim (λ n. inl n) (λ old. inr (in_more (packed_run p) (filter_map packed_run ps) r old)) (go later))
    (in_option (packed_run p) (filter_map packed_run rest) r a)

pub run_with_pending : (ps : List Pending) (new : Pending) (r : Run) → In r (filter_map packed_run (with_pending ps new))
    → (packed_run new ≡ Some r) ⊎ In r (filter_map packed_run ps)
run_with_pending [] new r a = ⊎_elim (λ here. inl here) (λ none. absurd none) (in_option (packed_run new) [] r a)
run_with_pending (p ∷ ps) new r a = run_first (bytes_eq p.key new.key) p ps (with_pending ps new) new r a (run_with_pending ps new r)

-- A relation of runs that holds on both sides of the new one, with each that was there, holds among all.
pub record Suits (R : Run → Run → Type 0) (new : Option Run) (runs : List Run) : Type 0 where
  pub before : (r q : Run) → new ≡ Some r → In q runs → R r q
  pub behind : (r q : Run) → new ≡ Some r → In q runs → R q r

runs_first : (R : Run → Run → Type 0) (b : Bool) (p : Pending) (ps : List Pending) (new : Pending) → Suits R (packed_run new) (filter_map packed_run (p ∷ ps))
    → Pairs R (filter_map packed_run (p ∷ ps)) → Pairs R (filter_map packed_run (with_pending ps new))
    → Pairs R (filter_map packed_run (cond b (new ∷ ps) (p ∷ with_pending ps new)))
runs_first R true p ps new suits apart rest =
    pairs_option R (packed_run new) (filter_map packed_run ps)
    (λ r q e a. suits.before r q e (in_more (packed_run p) (filter_map packed_run ps) q a)) (option_rest R (packed_run p) (filter_map packed_run ps) apart)
runs_first R false p ps new suits apart rest =
    pairs_option R (packed_run p) (filter_map packed_run (with_pending ps new))
    (λ r q e a. ⊎_elim
    (λ n. suits.behind q r n (option_in (packed_run p) (filter_map packed_run ps) r e))
    (λ old. option_first R (packed_run p) (filter_map packed_run ps) apart r q e old)
    (run_with_pending ps new q a)) rest

pub runs_apart : (R : Run → Run → Type 0) (ps : List Pending) (new : Pending) → Suits R (packed_run new) (filter_map packed_run ps)
    → Pairs R (filter_map packed_run ps) → Pairs R (filter_map packed_run (with_pending ps new))
runs_apart R [] new suits apart = pairs_option R (packed_run new) [] (λ r q e a. absurd a) tt
runs_apart R (p ∷ ps) new suits apart =
    runs_first R (bytes_eq p.key new.key) p ps new suits apart
    (runs_apart R ps new
    (record {
      before = λ r q e a. suits.before r q e (in_more (packed_run p) (filter_map packed_run ps) q a);
      behind = λ r q e a. suits.behind r q e (in_more (packed_run p) (filter_map packed_run ps) q a);
    })
    (option_rest R (packed_run p) (filter_map packed_run ps) apart))

-- a pending block that keeps its run
kept_first : (b : Bool) (p : Pending) (ps : List Pending) (new : Pending) (q : Packed) → packed_run new ≡ Some q.run
    → cond b p.packed (packed_of ps new.key) ≡ Some q
    → (packed_of ps new.key ≡ Some q → filter_map packed_run (with_pending ps new) ≡ filter_map packed_run ps)
    → filter_map packed_run (cond b (new ∷ ps) (p ∷ with_pending ps new)) ≡ filter_map packed_run (p ∷ ps)
kept_first true p ps new q same is go =
    let run_is : packed_run p ≡ Some q.run = ap (λ (o : Option Packed). packed_run (record { key = p.key; packed = o })) is in
    ap (λ o. cons_option o (filter_map packed_run ps)) (same ∙ sym run_is)
kept_first false p ps new q same is go = ap (λ runs. cons_option (packed_run p) runs) (go is)

pub runs_kept : (ps : List Pending) (new : Pending) (q : Packed) → packed_run new ≡ Some q.run → packed_of ps new.key ≡ Some q
    → filter_map packed_run (with_pending ps new) ≡ filter_map packed_run ps
runs_kept [] new q same is = cc is
runs_kept (p ∷ ps) new q same is = kept_first (bytes_eq p.key new.key) p ps new q same is (runs_kept ps new q same)

-- ---- what is found of a key

found_first : (b : Bool) (p : Pending) (ps : List Pending) (new : Pending) → bytes_eq p.key new.key ≡ b → packed_of (with_pending ps new) new.key ≡ new.packed
    → packed_of (cond b (new ∷ ps) (p ∷ with_pending ps new)) new.key ≡ new.packed
found_first true p ps new e rest = ap (λ b. cond b new.packed (packed_of ps new.key)) (key_self new.key)
found_first false p ps new e rest = ap (λ b. cond b p.packed (packed_of (with_pending ps new) new.key)) e ∙ rest

pub found_new : (ps : List Pending) (new : Pending) → packed_of (with_pending ps new) new.key ≡ new.packed
found_new [] new = ap (λ b. cond b new.packed None) (key_self new.key)
found_new (p ∷ ps) new = found_first (bytes_eq p.key new.key) p ps new refl (found_new ps new)

other_first : (b : Bool) (p : Pending) (ps : List Pending) (new : Pending) (key : List ℕ) → bytes_eq p.key new.key ≡ b → bytes_eq new.key key ≡ false
    → packed_of (with_pending ps new) key ≡ packed_of ps key
    → packed_of (cond b (new ∷ ps) (p ∷ with_pending ps new)) key ≡ cond (bytes_eq p.key key) p.packed (packed_of ps key)
other_first true p ps new key e other rest =
    ap (λ b. cond b new.packed (packed_of ps key)) other
    ∙ sym (ap (λ b. cond b p.packed (packed_of ps key)) (subst (λ (k : List ℕ). bytes_eq k key ≡ false) (sym (same_key p.key new.key e)) other))
other_first false p ps new key e other rest = ap (λ o. cond (bytes_eq p.key key) p.packed o) rest

pub found_other : (ps : List Pending) (new : Pending) (key : List ℕ) → bytes_eq new.key key ≡ false → packed_of (with_pending ps new) key ≡ packed_of ps key
found_other [] new key other = ap (λ b. cond b new.packed None) other
found_other (p ∷ ps) new key other = other_first (bytes_eq p.key new.key) p ps new key refl other (found_other ps new key other)

-- ---- the order of first touch

order_first : (b : Bool) (p : Pending) (ps : List Pending) (new : Pending) → bytes_eq p.key new.key ≡ b
    → map (λ (q : Pending). q.key) (with_pending ps new)
    ≡ cond (is_pending ps new.key) (map (λ (q : Pending). q.key) ps) (map (λ (q : Pending). q.key) ps ++ new.key ∷ [])
    → map (λ (q : Pending). q.key) (cond b (new ∷ ps) (p ∷ with_pending ps new))
    ≡ cond (b || is_pending ps new.key) (p.key ∷ map (λ (q : Pending). q.key) ps) (p.key ∷ (map (λ (q : Pending). q.key) ps ++ new.key ∷ []))
order_first true p ps new e rest = ap (λ (k : List ℕ). k ∷ map (λ (q : Pending). q.key) ps) (sym (same_key p.key new.key e))
order_first false p ps new e rest =
    ap (λ (ks : List (List ℕ)). p.key ∷ ks) rest
    ∙ inside (is_pending ps new.key) p.key (map (λ (q : Pending). q.key) ps) (map (λ (q : Pending). q.key) ps ++ new.key ∷ [])
  where
    inside : (b : Bool) (k : List ℕ) (xs ys : List (List ℕ)) → k ∷ cond b xs ys ≡ cond b (k ∷ xs) (k ∷ ys)
    inside true k xs ys = refl
    inside false k xs ys = refl

pub order_kept : (ps : List Pending) (new : Pending)
    → map (λ (q : Pending). q.key) (with_pending ps new)
    ≡ cond (is_pending ps new.key) (map (λ (q : Pending). q.key) ps) (map (λ (q : Pending). q.key) ps ++ new.key ∷ [])
order_kept [] new = refl
order_kept (p ∷ ps) new = order_first (bytes_eq p.key new.key) p ps new refl (order_kept ps new)
