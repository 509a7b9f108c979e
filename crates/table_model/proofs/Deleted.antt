-- Lemmas: members, what deletions leave, and when objects are new.
use Rattle.std.proofs.Common.{◌≡◌, ℕ, Bool, true, false, cond, List, [], ◌∷◌, length, filter, Option, Some, None, ⊎_elim, refl, ap, ◌∙◌, subst, arith}
use Rattle.std.specs.Prelude.{◌||◌}
use Rattle.std.specs.List.{list_any}
use Rattle.std.proofs.lemmas.Bool.{or_parts, or_cases, or_left, or_right, and_parts, and_cases, not-true, not-false, both_ways}
use Rattle.std.proofs.lemmas.List.Sorted.{length_permutation}
use Rattle.term_model.specs.TermValue.{TermValue, key}
use Rattle.term_model.specs.Order.{is_same}
use Rattle.term_model.specs.Sorted.{ascending}
use Rattle.term_model.specs.Sorting.{IsPermutation-sorted_by}
use Rattle.term_model.specs.Same.{equal_from_same, same_self}
use Rattle.table_model.specs.Table.{Table, has_key, is_key, shares_key, objects_of}
use Rattle.table_model.specs.Operations.{is_member, has_new_key, are_new, delete_where, delete_key, delete_object, KnownKey}
use Rattle.table_model.specs.Sets.{filter_others}
use Rattle.table_model.proofs.Inserted.{filter-without, one_key}

-- ---- members

pub filter_none : {A : Type 0} (p : A → Bool) (xs : List A) → list_any p xs ≡ false → filter p xs ≡ []
filter_none p [] e = refl
filter_none p (x ∷ xs) e = let parts = or_parts (p x) (list_any p xs) e in
    ap (λ b. cond b (x ∷ filter p xs) (filter p xs)) parts.0 ∙ filter_none p xs parts.1

pub absent_has_none : (table : Table) (k : TermValue) → is_member table k ≡ false → objects_of table k ≡ []
absent_has_none table k e = ap ascending (filter_none (has_key table.keypos k) table.objects e)

first_passes : {A : Type 0} (p : A → Bool) (x : A) (xs : List A) (b : Bool) → p x ≡ b → (filter p xs ≡ [] → list_any p xs ≡ false)
    → cond b (x ∷ filter p xs) (filter p xs) ≡ [] → (b || list_any p xs) ≡ false
first_passes p x xs true e rest none = cc
first_passes p x xs false e rest none = rest none

none_from_filter : {A : Type 0} (p : A → Bool) (xs : List A) → filter p xs ≡ [] → list_any p xs ≡ false
none_from_filter p [] e = refl
none_from_filter p (x ∷ xs) e = first_passes p x xs (p x) refl (none_from_filter p xs) e

empty_from_sorted : (ts : List TermValue) → length (ascending ts) ≡ length ts → ascending ts ≡ [] → ts ≡ []
empty_from_sorted [] n e = refl
empty_from_sorted (t ∷ ts) n e = let none : length (ascending (t ∷ ts)) ≡ 0 = ap length e in absurd (omega arith)

pub member_has_some : (table : Table) (k : TermValue) → objects_of table k ≡ [] → is_member table k ≡ false
member_has_some table k e =
    let mine = filter (has_key table.keypos k) table.objects in
    none_from_filter (has_key table.keypos k) table.objects
    (empty_from_sorted mine (length_permutation mine (ascending mine) (IsPermutation-sorted_by (λ t. t) mine)) e)

-- ---- deletions

-- no object is left that passes the test
pub deleted : (test : TermValue → Bool) (table : Table) → filter test (delete_where test table).objects ≡ []
deleted test table = filter_others test table.objects

pub not_deleted : (test p : TermValue → Bool) (table : Table) → ((object : TermValue) → test object ≡ true → p object ≡ false)
    → filter p (delete_where test table).objects ≡ filter p table.objects
not_deleted test p table so = filter-without p test so table.objects

pub deleted_key : (table : Table) (k : TermValue) → objects_of (delete_key table k) k ≡ []
deleted_key table k = ap ascending (deleted (has_key table.keypos k) table)

pub other_keys_not_deleted : (table : Table) (j k : TermValue) → is_same j k ≡ false → objects_of (delete_key table j) k ≡ objects_of table k
other_keys_not_deleted table j k other =
    ap ascending (not_deleted (has_key table.keypos j) (has_key table.keypos k) table (λ object e. one_key j k (key object table.keypos) e other))

pub other_objects_not_deleted : (table : Table) (o k : TermValue) → has_key table.keypos k o ≡ false → objects_of (delete_object table o) k ≡ objects_of table k
other_objects_not_deleted table o k e =
    ap ascending (not_deleted (is_same o) (has_key table.keypos k) table
    (λ object same. subst (λ (t : TermValue). has_key table.keypos k t ≡ false) (equal_from_same o object same) e))

-- ---- new objects

no_member : (table : Table) (o k : TermValue) (mine : Option TermValue) → is_key k mine ≡ true → list_any (shares_key table.keypos mine) table.objects ≡ false
    → is_member table k ≡ false
no_member table o k None e new = cc
no_member table o k (Some j) e new = subst (λ (t : TermValue). list_any (has_key table.keypos t) table.objects ≡ false) (equal_from_same j k e) new

-- where all objects are new the table has none with their keys
pub new_keys : (table : Table) (objects : List TermValue) (k : TermValue) → are_new table objects ≡ true → list_any (has_key table.keypos k) objects ≡ true
    → is_member table k ≡ false
new_keys table [] k new some = cc
new_keys table (o ∷ objects) k new some =
    let parts = and_parts (has_new_key table o) (are_new table objects) new in
    ⊎_elim (λ here. no_member table o k (key o table.keypos) here (not-true _ parts.0)) (λ later. new_keys table objects k parts.1 later)
    (or_cases (has_key table.keypos k o) (list_any (has_key table.keypos k) objects) some)

pub none_shares : (keypos : ℕ) (objects : List TermValue) → list_any (shares_key keypos None) objects ≡ false
none_shares keypos [] = refl
none_shares keypos (x ∷ xs) = none_shares keypos xs

known_first : (table : Table) (o : TermValue) (objects : List TermValue) (mine : Option TermValue) → key o table.keypos ≡ mine
    → list_any (shares_key table.keypos mine) table.objects ≡ true → KnownKey table (o ∷ objects)
known_first table o objects None e shares = absurd (both_ways _ (none_shares table.keypos table.objects) shares)
known_first table o objects (Some k) e shares = record {
  key = k;
  inserted = or_left (has_key table.keypos k o) (list_any (has_key table.keypos k) objects) (ap (is_key k) e ∙ same_self k);
  member = shares;
}

pub known_key : (table : Table) (objects : List TermValue) → are_new table objects ≡ false → KnownKey table objects
known_key table [] e = cc
known_key table (o ∷ objects) e = ⊎_elim
    (λ here. known_first table o objects (key o table.keypos) refl (not-false _ here))
    (λ later. let k = known_key table objects later in
    record {
      key = k.key;
      inserted = or_right (has_key table.keypos k.key o) (list_any (has_key table.keypos k.key) objects) k.inserted;
      member = k.member;
    })
    (and_cases (has_new_key table o) (are_new table objects) e)
