-- Lemmas: which keys are touched.
use Rattle.std.proofs.Common.{◌≡◌, ℕ, Bool, true, false, cond, not, List, [], ◌∷◌, filter, Option, Some, None, refl, sym, ap, ◌∙◌, subst}
use Rattle.std.specs.Prelude.{◌&&◌, ◌||◌, filter_map}
use Rattle.std.specs.List.{list_any, cons_option}
use Rattle.std.proofs.lemmas.Bool.{or_parts, or_from, both_ways, not-false}
use Rattle.term_model.specs.TermValue.{TermValue, nil, chain, elements, key}
use Rattle.term_model.specs.Order.{is_same}
use Rattle.term_model.specs.Pairs.{repeats}
use Rattle.term_model.specs.Same.{equal_from_same, same_self, same_by}
use Rattle.table_model.specs.Table.{Table, has_key, is_key, objects_of}
use Rattle.table_model.specs.Operations.{insert_objects}
use Rattle.table_model.specs.Touched.{distinct, keys_of, are_same, is_touched, touched_among, touched_by_insert}
use Rattle.table_model.proofs.Inserted.{other_keys_kept_by_all, any-filter}

-- ---- equal lists

pub elements-chain : (ts : List TermValue) → elements (chain ts nil) ≡ ts
elements-chain [] = refl
elements-chain (t ∷ ts) = ap (λ us. t ∷ us) (elements-chain ts)

pub equal_from_are_same : (ts us : List TermValue) → are_same ts us ≡ true → ts ≡ us
equal_from_are_same ts us e = sym (elements-chain ts) ∙ ap elements (equal_from_same (chain ts nil) (chain us nil) e) ∙ elements-chain us

pub are_same_self : (ts : List TermValue) → are_same ts ts ≡ true
are_same_self ts = same_self (chain ts nil)

pub untouched : (old new : Table) (k : TermValue) → is_touched old new k ≡ false → objects_of new k ≡ objects_of old k
untouched old new k e = sym (equal_from_are_same (objects_of old k) (objects_of new k) (not-false _ e))

pub not_touched : (old new : Table) (k : TermValue) → objects_of new k ≡ objects_of old k → is_touched old new k ≡ false
not_touched old new k e = subst (λ (ts : List TermValue). not (are_same (objects_of old k) ts) ≡ false) (sym e) (ap not (are_same_self (objects_of old k)))

pub touched : (old new : Table) (k : TermValue) → is_touched old new k ≡ true → objects_of new k ≡ objects_of old k → ⊥
touched old new k t e = both_ways _ (not_touched old new k e) t

-- ---- one of some terms

pub same_flips : (a b : TermValue) → is_same a b ≡ is_same b a
same_flips a b = same_by (is_same a b) b a (λ e. sym (equal_from_same a b e), λ e. subst (λ (c : TermValue). is_same c b ≡ true) e (same_self b))

any-filter_first : {A : Type 0} (p : A → Bool) (x : A) (kept : List A) (b c : Bool) → (b ≡ true → c ≡ false) → p x ≡ c
    → list_any p (cond (not b) (x ∷ kept) kept) ≡ (c || list_any p kept)
any-filter_first p x kept true true so e = let no : true ≡ false = so refl in cc
any-filter_first p x kept true false so e = refl
any-filter_first p x kept false c so e = ap (λ t. t || list_any p kept) e

pub any-without : {A : Type 0} (p q : A → Bool) → ((x : A) → q x ≡ true → p x ≡ false) → (xs : List A) → list_any p (filter (λ x. not (q x)) xs) ≡ list_any p xs
any-without p q so [] = refl
any-without p q so (x ∷ xs) = any-filter_first p x (filter (λ y. not (q y)) xs) (q x) (p x) (so x) refl ∙ ap (λ b. p x || b) (any-without p q so xs)

pub any-filter_none : {A : Type 0} (p q : A → Bool) (xs : List A) → list_any p xs ≡ false → list_any p (filter q xs) ≡ false
any-filter_none p q [] e = refl
any-filter_none p q (x ∷ xs) e = let parts = or_parts (p x) (list_any p xs) e in by_test p x (filter q xs) (q x) parts.0 (any-filter_none p q xs parts.1)
  where
    by_test : {A : Type 0} (p : A → Bool) (x : A) (kept : List A) (b : Bool) → p x ≡ false → list_any p kept ≡ false
        → list_any p (cond b (x ∷ kept) kept) ≡ false
    by_test p x kept true here rest = or_from (p x) (list_any p kept) here rest
    by_test p x kept false here rest = rest

pub none_left : {A : Type 0} (p : A → Bool) (xs : List A) → list_any p (filter (λ x. not (p x)) xs) ≡ false
none_left p [] = refl
none_left p (x ∷ xs) = by_test p x (filter (λ y. not (p y)) xs) (p x) refl (none_left p xs)
  where
    by_test : {A : Type 0} (p : A → Bool) (x : A) (kept : List A) (b : Bool) → p x ≡ b → list_any p kept ≡ false
        → list_any p (cond (not b) (x ∷ kept) kept) ≡ false
    by_test p x kept true e rest = rest
    by_test p x kept false e rest = or_from (p x) (list_any p kept) e rest

-- ---- each once

same_other : (k t u : TermValue) → is_same k t ≡ false → is_same t u ≡ true → is_same k u ≡ false
same_other k t u e same = subst (λ (v : TermValue). is_same k v ≡ false) (equal_from_same t u same) e

any-distinct_first : (k t : TermValue) (us : List TermValue) (b : Bool) → is_same k t ≡ b
    → (b || list_any (is_same k) (filter (λ u. not (is_same t u)) us)) ≡ (b || list_any (is_same k) us)
any-distinct_first k t us true e = refl
any-distinct_first k t us false e = any-without (is_same k) (is_same t) (λ u same. same_other k t u e same) us

pub any-distinct : (k : TermValue) (ts : List TermValue) → list_any (is_same k) (distinct ts) ≡ list_any (is_same k) ts
any-distinct k [] = refl
any-distinct k (t ∷ ts) = any-distinct_first k t (distinct ts) (is_same k t) refl ∙ ap (λ b. is_same k t || b) (any-distinct k ts)

pub repeats-filter : (q : TermValue → Bool) (ts : List TermValue) → repeats ts ≡ false → repeats (filter q ts) ≡ false
repeats-filter q [] e = refl
repeats-filter q (t ∷ ts) e =
    let parts = or_parts (list_any (is_same t) ts) (repeats ts) e in
    by_test q t ts (q t) (any-filter_none (is_same t) q ts parts.0) (repeats-filter q ts parts.1)
  where
    by_test : (q : TermValue → Bool) (t : TermValue) (ts : List TermValue) (b : Bool) → list_any (is_same t) (filter q ts) ≡ false
        → repeats (filter q ts) ≡ false → repeats (cond b (t ∷ filter q ts) (filter q ts)) ≡ false
    by_test q t ts true apart rest = or_from _ _ apart rest
    by_test q t ts false apart rest = rest

pub repeats-distinct : (ts : List TermValue) → repeats (distinct ts) ≡ false
repeats-distinct [] = refl
repeats-distinct (t ∷ ts) = or_from _ _ (none_left (is_same t) (distinct ts)) (repeats-filter (λ u. not (is_same t u)) (distinct ts) (repeats-distinct ts))

-- ---- the keys of objects

pub any-key : (k : TermValue) (found : Option TermValue) (ks : List TermValue)
    → list_any (is_same k) (cons_option found ks) ≡ (is_key k found || list_any (is_same k) ks)
any-key k None ks = refl
any-key k (Some j) ks = ap (λ b. b || list_any (is_same k) ks) (same_flips k j)

pub any-found : (keypos : ℕ) (k : TermValue) (objects : List TermValue)
    → list_any (is_same k) (filter_map (λ object. key object keypos) objects) ≡ list_any (has_key keypos k) objects
any-found keypos k [] = refl
any-found keypos k (o ∷ objects) =
    any-key k (key o keypos) (filter_map (λ object. key object keypos) objects) ∙ ap (λ b. has_key keypos k o || b) (any-found keypos k objects)

pub any-keys_of : (keypos : ℕ) (k : TermValue) (objects : List TermValue) → list_any (is_same k) (keys_of keypos objects) ≡ list_any (has_key keypos k) objects
any-keys_of keypos k objects = any-distinct k (filter_map (λ object. key object keypos) objects) ∙ any-found keypos k objects

-- ---- touched keys

pub any-touched_among : (keys : List TermValue) (old new : Table) (k : TermValue)
    → list_any (is_same k) (touched_among keys old new) ≡ (list_any (is_same k) keys && is_touched old new k)
any-touched_among keys old new k = any-filter k (is_touched old new) keys

inserted_or_same : (objects : List TermValue) (table : Table) (k : TermValue) (b : Bool) → list_any (has_key table.keypos k) objects ≡ b
    → (b && is_touched table (insert_objects table objects) k) ≡ is_touched table (insert_objects table objects) k
inserted_or_same objects table k true e = refl
inserted_or_same objects table k false e = sym (not_touched table (insert_objects table objects) k (other_keys_kept_by_all objects table k e))

pub touched_by_insert_is : (objects : List TermValue) (table : Table) (k : TermValue)
    → list_any (is_same k) (touched_by_insert objects table (insert_objects table objects)) ≡ is_touched table (insert_objects table objects) k
touched_by_insert_is objects table k =
    any-touched_among (keys_of table.keypos objects) table (insert_objects table objects) k
    ∙ ap (λ b. b && is_touched table (insert_objects table objects) k) (any-keys_of table.keypos k objects)
    ∙ inserted_or_same objects table k (list_any (has_key table.keypos k) objects) refl

pub touched_once : (objects : List TermValue) (old new : Table) → repeats (touched_by_insert objects old new) ≡ false
touched_once objects old new =
    repeats-filter (is_touched old new) (keys_of old.keypos objects)
    (repeats-distinct (filter_map (λ object. key object old.keypos) objects))
