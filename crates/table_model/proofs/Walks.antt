-- Lemmas: a walk meets each key and each object once.
use Rattle.std.proofs.Common.{◌≡◌, ℕ, Bool, true, false, cond, not, List, [], ◌∷◌, ◌++◌, filter, Option, Some, None, refl, sym, ap, ◌∙◌, subst, arith}
use Rattle.std.specs.Prelude.{◌&&◌, ◌||◌, filter_map, flat_map, is_some}
use Rattle.std.specs.List.{list_any, list_all}
use Rattle.std.specs.List.Sorted.{IsPermutation}
use Rattle.std.specs.declared.cmp.Ordering.TheVariants.{Equal}
use Rattle.std.specs.Ordering.{nat_cmp, ordering_then}
use Rattle.std.proofs.lemmas.Bool.Decides.{nat_tests}
use Rattle.std.proofs.lemmas.Bool.{or_parts, or_left, or_right, and_parts, and_from}
use Rattle.std.proofs.lemmas.List.Sorted.{list_any-IsPermutation, IsPermutation-refl, IsPermutation-trans, IsPermutation-append}
use Rattle.std.proofs.lemmas.List.Sorted.{IsPermutation-append_right, IsPermutation-filter_both}
use Rattle.term_model.specs.TermValue.{TermValue, key}
use Rattle.term_model.specs.Order.{order, is_same}
use Rattle.term_model.specs.Same.{same_self}
use Rattle.term_model.specs.Orderings.{then_equal}
use Rattle.term_model.specs.Written.{number}
use Rattle.term_model.specs.Sorted.{ascending}
use Rattle.term_model.specs.Sorting.{IsPermutation-sorted_by}
use Rattle.term_model.specs.Pairs.{repeats}
use Rattle.term_model.specs.PairSorts.{repeats-IsPermutation}
use Rattle.table_model.specs.Table.{Table, has_key, is_key}
use Rattle.table_model.specs.Operations.{is_member, delete_where}
use Rattle.table_model.specs.Allowed.{is_object}
use Rattle.table_model.specs.Touched.{is_touched}
use Rattle.table_model.specs.Walk.{keys_in, slot_of_key, walk_place, walked_keys, walked, touched_in_walk}
use Rattle.table_model.proofs.Inserted.{filter-without, one_key}
use Rattle.table_model.proofs.Deleted.{absent_has_none}
use Rattle.table_model.proofs.TouchedKeys.{any-keys_of, any-touched_among, any-filter_none, not_touched, repeats-distinct, repeats-filter}

-- ---- the objects of some keys

others_left : (keypos : ℕ) (k : TermValue) (ks xs : List TermValue) → list_any (is_same k) ks ≡ false
    → flat_map (λ j. filter (has_key keypos j) (filter (λ x. not (has_key keypos k x)) xs)) ks ≡ flat_map (λ j. filter (has_key keypos j) xs) ks
others_left keypos k [] xs e = refl
others_left keypos k (j ∷ ks) xs e =
    let parts = or_parts (is_same k j) (list_any (is_same k) ks) e in
    let first = filter-without (has_key keypos j) (has_key keypos k) (λ x same. one_key k j (key x keypos) same parts.0) xs in
    ap (λ zs. zs ++ flat_map (λ i. filter (has_key keypos i) (filter (λ x. not (has_key keypos k x)) xs)) ks) first
    ∙ ap (λ zs. filter (has_key keypos j) xs ++ zs) (others_left keypos k ks xs parts.1)

-- each of some objects has one of these keys
abbrev has_one_of : ℕ → List TermValue → TermValue → Bool
has_one_of keypos ks x = list_any (λ k. has_key keypos k x) ks

left_have : (keypos : ℕ) (k : TermValue) (ks xs : List TermValue) → list_all (has_one_of keypos (k ∷ ks)) xs ≡ true
    → list_all (has_one_of keypos ks) (filter (λ x. not (has_key keypos k x)) xs) ≡ true
left_have keypos k ks [] e = refl
left_have keypos k ks (x ∷ xs) e =
    let parts = and_parts (has_one_of keypos (k ∷ ks) x) (list_all (has_one_of keypos (k ∷ ks)) xs) e in
    by_test x (filter (λ y. not (has_key keypos k y)) xs) (has_key keypos k x) parts.0 (left_have keypos k ks xs parts.1)
  where
    by_test : (x : TermValue) (left : List TermValue) (b : Bool) → (b || has_one_of keypos ks x) ≡ true → list_all (has_one_of keypos ks) left ≡ true
        → list_all (has_one_of keypos ks) (cond (not b) (x ∷ left) left) ≡ true
    by_test x left true one rest = rest
    by_test x left false one rest = ap (λ b. b && list_all (has_one_of keypos ks) left) one ∙ rest

none_left : (keypos : ℕ) (xs : List TermValue) → list_all (has_one_of keypos []) xs ≡ true → xs ≡ []
none_left keypos [] e = refl
none_left keypos (x ∷ xs) e = absurd (cc e)

by_keys : (keypos : ℕ) (ks xs : List TermValue) → repeats ks ≡ false → list_all (has_one_of keypos ks) xs ≡ true
    → IsPermutation xs (flat_map (λ k. filter (has_key keypos k) xs) ks)
by_keys keypos [] xs once e = subst (λ (ys : List TermValue). IsPermutation ys []) (sym (none_left keypos xs e)) (IsPermutation-refl [])
by_keys keypos (k ∷ ks) xs once e =
    let parts = or_parts (list_any (is_same k) ks) (repeats ks) once in
    let left = filter (λ x. not (has_key keypos k x)) xs in
    let halves = IsPermutation-filter_both (has_key keypos k) (λ x. not (has_key keypos k x)) (λ x. refl) xs in
    let rest = by_keys keypos ks left parts.1 (left_have keypos k ks xs e) in
    let same = subst (λ (ys : List TermValue). IsPermutation left ys) (others_left keypos k ks xs parts.0) rest in
    IsPermutation-trans xs (filter (has_key keypos k) xs ++ left) (filter (has_key keypos k) xs ++ flat_map (λ j. filter (has_key keypos j) xs) ks) halves
    (IsPermutation-append_right (filter (has_key keypos k) xs) left (flat_map (λ j. filter (has_key keypos j) xs) ks) same)

each_ascending : (keypos : ℕ) (ks xs : List TermValue)
    → IsPermutation (flat_map (λ k. filter (has_key keypos k) xs) ks) (flat_map (λ k. ascending (filter (has_key keypos k) xs)) ks)
each_ascending keypos [] xs = IsPermutation-refl []
each_ascending keypos (k ∷ ks) xs =
    IsPermutation-append (filter (has_key keypos k) xs) (ascending (filter (has_key keypos k) xs)) (flat_map (λ j. filter (has_key keypos j) xs) ks)
    (flat_map (λ j. ascending (filter (has_key keypos j) xs)) ks)
    (IsPermutation-sorted_by (λ t. t) (filter (has_key keypos k) xs)) (each_ascending keypos ks xs)

-- ---- the keys of a walk

pub keys_same : (slots : ℕ) (table : Table) → IsPermutation (keys_in table) (walked_keys slots table)
keys_same slots table = IsPermutation-sorted_by (walk_place slots) (keys_in table)

pub keys_once : (slots : ℕ) (table : Table) → repeats (walked_keys slots table) ≡ false
keys_once slots table =
    repeats-IsPermutation (keys_in table) (walked_keys slots table) (keys_same slots table)
    (repeats-distinct (filter_map (λ object. key object table.keypos) table.objects))

pub key_walked : (slots : ℕ) (table : Table) (k : TermValue) → list_any (is_same k) (walked_keys slots table) ≡ is_member table k
key_walked slots table k =
    sym (list_any-IsPermutation (is_same k) (keys_in table) (walked_keys slots table) (keys_same slots table)) ∙ any-keys_of table.keypos k table.objects

-- ---- the objects of a walk

with_key : (keypos : ℕ) (all ks : List TermValue) (x : TermValue) (found : Option TermValue) → key x keypos ≡ found → is_some found ≡ true
    → ((j : TermValue) → list_any (is_same j) ks ≡ list_any (has_key keypos j) all)
    → ((j : TermValue) → has_key keypos j x ≡ true → list_any (has_key keypos j) all ≡ true) → has_one_of keypos ks x ≡ true
with_key keypos all ks x None e some keys there = absurd (cc some)
with_key keypos all ks x (Some j) e some keys there =
    ap (λ (o : Option TermValue). list_any (λ k. is_key k o) ks) e ∙ keys j ∙ there j (ap (is_key j) e ∙ same_self j)

all_have : (keypos : ℕ) (all ks xs : List TermValue) → ((j : TermValue) → list_any (is_same j) ks ≡ list_any (has_key keypos j) all)
    → ((j : TermValue) → list_any (has_key keypos j) xs ≡ true → list_any (has_key keypos j) all ≡ true) → list_all (is_object keypos) xs ≡ true
    → list_all (has_one_of keypos ks) xs ≡ true
all_have keypos all ks [] keys there e = refl
all_have keypos all ks (x ∷ xs) keys there e =
    let parts = and_parts (is_object keypos x) (list_all (is_object keypos) xs) e in
    and_from (has_one_of keypos ks x) (list_all (has_one_of keypos ks) xs)
    (with_key keypos all ks x (key x keypos) refl parts.0 keys (λ j has. there j (or_left (has_key keypos j x) (list_any (has_key keypos j) xs) has)))
    (all_have keypos all ks xs keys (λ j has. there j (or_right (has_key keypos j x) (list_any (has_key keypos j) xs) has)) parts.1)

pub objects_walked : (slots : ℕ) (table : Table) → list_all (is_object table.keypos) table.objects ≡ true → IsPermutation table.objects (walked slots table)
objects_walked slots table e =
    IsPermutation-trans table.objects (flat_map (λ k. filter (has_key table.keypos k) table.objects) (walked_keys slots table)) (walked slots table)
    (by_keys table.keypos (walked_keys slots table) table.objects (keys_once slots table)
    (all_have table.keypos table.objects (walked_keys slots table) table.objects (key_walked slots table) (λ j has. has) e))
    (each_ascending table.keypos (walked_keys slots table) table.objects)

-- ---- deletions

-- an absent key stays absent
none_from_deletion : (test : TermValue → Bool) (table : Table) (k : TermValue) → is_member table k ≡ false
    → is_touched table (delete_where test table) k ≡ false
none_from_deletion test table k e =
    not_touched table (delete_where test table) k
    (absent_has_none (delete_where test table) k (any-filter_none (has_key table.keypos k) (λ x. not (test x)) table.objects e)
    ∙ sym (absent_has_none table k e))

member_or_same : (test : TermValue → Bool) (table : Table) (k : TermValue) (b : Bool) → is_member table k ≡ b
    → (b && is_touched table (delete_where test table) k) ≡ is_touched table (delete_where test table) k
member_or_same test table k true e = refl
member_or_same test table k false e = sym (none_from_deletion test table k e)

pub touched_in_walk_is : (slots : ℕ) (test : TermValue → Bool) (table : Table) (k : TermValue)
    → list_any (is_same k) (touched_in_walk slots table (delete_where test table)) ≡ is_touched table (delete_where test table) k
touched_in_walk_is slots test table k =
    any-touched_among (walked_keys slots table) table (delete_where test table) k
    ∙ ap (λ b. b && is_touched table (delete_where test table) k) (key_walked slots table k)
    ∙ member_or_same test table k (is_member table k) refl

pub touched_in_walk_once : (slots : ℕ) (old new : Table) → repeats (touched_in_walk slots old new) ≡ false
touched_in_walk_once slots old new = repeats-filter (is_touched old new) (walked_keys slots old) (keys_once slots old)

-- ---- walk order

number_order : (m n : ℕ) → order (number m) (number n) ≡ nat_cmp m n
number_order m n = grind (arith, nat_tests)

pub place_order : (slots : ℕ) (j k : TermValue)
    → order (walk_place slots j) (walk_place slots k) ≡ ordering_then (nat_cmp (slot_of_key slots j) (slot_of_key slots k)) (order j k)
place_order slots j k =
    ap (λ o. ordering_then o (ordering_then (order j k) Equal)) (number_order (slot_of_key slots j) (slot_of_key slots k))
    ∙ ap (λ o. ordering_then (nat_cmp (slot_of_key slots j) (slot_of_key slots k)) o) (then_equal (order j k))
