-- Lemmas: each operation leaves a table with objects that its kind allows.
use Rattle.std.proofs.Common.{append-nil, ◌≡◌, ◌≤◌, ℕ, Bool, true, false, cond, not, List, [], ◌∷◌, ◌++◌, filter, length, Option, Some, None, Ok, refl, sym, ap}
use Rattle.std.proofs.Common.{◌∙◌, subst, arith}
use Rattle.std.specs.Prelude.{ℤ, filter_map, is_some}
use Rattle.std.specs.List.{list_any, list_all, cons_option}
use Rattle.std.proofs.lemmas.Bool.{or_parts, or_from, and_parts, and_from, not-true, not_from_false}
use Rattle.std.proofs.lemmas.List.Elements.{filter_map-append}
use Rattle.std.proofs.lemmas.List.Folds.{list_all-append}
use Rattle.std.proofs.lemmas.List.Sorted.{length_permutation}
use Rattle.term_model.specs.TermValue.{TermValue, key}
use Rattle.term_model.specs.Order.{is_same}
use Rattle.term_model.specs.Pairs.{repeats}
use Rattle.term_model.specs.PairSorts.{repeats-IsPermutation}
use Rattle.term_model.specs.Sorted.{ascending}
use Rattle.term_model.specs.Sorting.{IsPermutation-sorted_by}
use Rattle.term_model.specs.declared.kind.Kind.{Kind}
use Rattle.term_model.specs.declared.kind.Kind.TheVariants.{Set, Bag, DuplicateBag}
use Rattle.table_model.specs.Table.{Table, empty_table, has_key, shares_key, objects_of, with_object, insert_object}
use Rattle.table_model.specs.Operations.{insert_objects, are_new, insert_new_objects, delete_where}
use Rattle.table_model.specs.Allowed.{is_object, allows, IsTable}
use Rattle.table_model.specs.Counter.{Counted, update_counter}
use Rattle.table_model.proofs.Counters.{updated, key_found}
use Rattle.table_model.proofs.Deleted.{filter_none}
use Rattle.table_model.proofs.TouchedKeys.{same_flips, any-filter_none, any-found, none_left, repeats-filter}

-- ---- repeats

repeats-push : (ts : List TermValue) (u : TermValue) → repeats ts ≡ false → list_any (is_same u) ts ≡ false → repeats (ts ++ u ∷ []) ≡ false
repeats-push [] u once none = refl
repeats-push (t ∷ ts) u once none =
    let first = or_parts (list_any (is_same t) ts) (repeats ts) once in
    let apart = or_parts (is_same u t) (list_any (is_same u) ts) none in
    or_from (list_any (is_same t) (ts ++ u ∷ [])) (repeats (ts ++ u ∷ [])) (behind t ts u first.0 (same_flips t u ∙ apart.0))
    (repeats-push ts u first.1 apart.1)
  where
    behind : (t : TermValue) (ts : List TermValue) (u : TermValue) → list_any (is_same t) ts ≡ false → is_same t u ≡ false
        → list_any (is_same t) (ts ++ u ∷ []) ≡ false
    behind t [] u none e = or_from (is_same t u) false e refl
    behind t (s ∷ ss) u none e = let p = or_parts (is_same t s) (list_any (is_same t) ss) none in
        or_from (is_same t s) (list_any (is_same t) (ss ++ u ∷ [])) p.0 (behind t ss u p.1 e)

-- the keys of some objects
abbrev found : ℕ → List TermValue → List TermValue
found keypos objects = filter_map (λ object. key object keypos) objects

repeats-option : (o : Option TermValue) (ks : List TermValue) → repeats (cons_option o ks) ≡ false
    → ((k : TermValue) → o ≡ Some k → list_any (is_same k) ks ≡ false) × (repeats ks ≡ false)
repeats-option None ks once = (λ k e. absurd (cc e), once)
repeats-option (Some j) ks once = let p = or_parts (list_any (is_same j) ks) (repeats ks) once in
    (λ k e. let same : j ≡ k = cc e in subst (λ (t : TermValue). list_any (is_same t) ks ≡ false) same p.0, p.1)

option-repeats : (o : Option TermValue) (ks : List TermValue) → ((k : TermValue) → o ≡ Some k → list_any (is_same k) ks ≡ false) → repeats ks ≡ false
    → repeats (cons_option o ks) ≡ false
option-repeats None ks none once = once
option-repeats (Some k) ks none once = or_from (list_any (is_same k) ks) (repeats ks) (none k refl) once

fewer_keys : (keypos : ℕ) (test : TermValue → Bool) (objects : List TermValue) → repeats (found keypos objects) ≡ false
    → repeats (found keypos (filter test objects)) ≡ false
fewer_keys keypos test [] once = refl
fewer_keys keypos test (o ∷ objects) once =
    let p = repeats-option (key o keypos) (found keypos objects) once in
    by_test (test o) o objects p.0 (fewer_keys keypos test objects p.1)
  where
    by_test : (b : Bool) (o : TermValue) (objects : List TermValue)
        → ((k : TermValue) → key o keypos ≡ Some k → list_any (is_same k) (found keypos objects) ≡ false)
        → repeats (found keypos (filter test objects)) ≡ false → repeats (found keypos (cond b (o ∷ filter test objects) (filter test objects))) ≡ false
    by_test false o objects none rest = rest
    by_test true o objects none rest =
        option-repeats (key o keypos) (found keypos (filter test objects))
        (λ k e. any-found keypos k (filter test objects) ∙ any-filter_none (has_key keypos k) test objects (sym (any-found keypos k objects) ∙ none k e)) rest

-- ---- deletions

fewer_allowed : (kind : Kind) (keypos : ℕ) (test : TermValue → Bool) (objects : List TermValue) → allows kind keypos objects ≡ true
    → allows kind keypos (filter test objects) ≡ true
fewer_allowed Set keypos test objects e = not_from_false _ (fewer_keys keypos test objects (not-true _ e))
fewer_allowed Bag keypos test objects e = not_from_false _ (repeats-filter test objects (not-true _ e))
fewer_allowed DuplicateBag keypos test objects e = refl

fewer_objects : (keypos : ℕ) (test : TermValue → Bool) (objects : List TermValue) → list_all (is_object keypos) objects ≡ true
    → list_all (is_object keypos) (filter test objects) ≡ true
fewer_objects keypos test [] e = refl
fewer_objects keypos test (o ∷ objects) e =
    let p = and_parts (is_object keypos o) (list_all (is_object keypos) objects) e in
    by_test (test o) o (filter test objects) p.0 (fewer_objects keypos test objects p.1)
  where
    by_test : (b : Bool) (o : TermValue) (kept : List TermValue) → is_object keypos o ≡ true → list_all (is_object keypos) kept ≡ true
        → list_all (is_object keypos) (cond b (o ∷ kept) kept) ≡ true
    by_test true o kept one rest = and_from (is_object keypos o) (list_all (is_object keypos) kept) one rest
    by_test false o kept one rest = rest

pub delete_allowed : (test : TermValue → Bool) (table : Table) → IsTable table → IsTable (delete_where test table)
delete_allowed test table is = record {
  objects = fewer_objects table.keypos (λ x. not (test x)) table.objects is.objects;
  kind = fewer_allowed table.kind table.keypos (λ x. not (test x)) table.objects is.kind;
}

-- ---- inserts

one_more : (keypos : ℕ) (objects : List TermValue) (o : TermValue) → list_all (is_object keypos) objects ≡ true → is_object keypos o ≡ true
    → list_all (is_object keypos) (objects ++ o ∷ []) ≡ true
one_more keypos objects o all one =
    list_all-append (is_object keypos) objects (o ∷ []) ∙ and_from _ _ all (and_from (is_object keypos o) true one refl)

objects_with : (kind : Kind) (keypos : ℕ) (objects : List TermValue) (o : TermValue) → list_all (is_object keypos) objects ≡ true → is_object keypos o ≡ true
    → list_all (is_object keypos) (with_object kind keypos objects o) ≡ true
objects_with Set keypos objects o all one =
    one_more keypos (filter (λ other. not (shares_key keypos (key o keypos) other)) objects) o
    (fewer_objects keypos (λ other. not (shares_key keypos (key o keypos) other)) objects all) one
objects_with Bag keypos objects o all one = by_test (list_any (is_same o) objects)
  where
    by_test : (b : Bool) → list_all (is_object keypos) (cond b objects (objects ++ o ∷ [])) ≡ true
    by_test true = all
    by_test false = one_more keypos objects o all one
objects_with DuplicateBag keypos objects o all one = one_more keypos objects o all one

-- no object with the key of the new one is left in a set
push_key : (keypos : ℕ) (left : List TermValue) (o : TermValue) (mine : Option TermValue) → key o keypos ≡ mine
    → ((k : TermValue) → mine ≡ Some k → list_any (has_key keypos k) left ≡ false) → repeats (found keypos left) ≡ false
    → repeats (found keypos (left ++ o ∷ [])) ≡ false
push_key keypos left o mine e none once =
    ap repeats (filter_map-append (λ object. key object keypos) left (o ∷ []) ∙ ap (λ p. found keypos left ++ cons_option p []) e) ∙ by_key mine none
  where
    by_key : (mine : Option TermValue) → ((k : TermValue) → mine ≡ Some k → list_any (has_key keypos k) left ≡ false)
        → repeats (found keypos left ++ cons_option mine []) ≡ false
    by_key None none = ap repeats (append-nil (found keypos left)) ∙ once
    by_key (Some k) none = repeats-push (found keypos left) k once (any-found keypos k left ∙ none k refl)

key_not_left : (keypos : ℕ) (objects : List TermValue) (mine : Option TermValue) (k : TermValue) → mine ≡ Some k
    → list_any (has_key keypos k) (filter (λ other. not (shares_key keypos mine other)) objects) ≡ false
key_not_left keypos objects None k e = cc
key_not_left keypos objects (Some j) k e =
    let same : k ≡ j = cc e in
    subst (λ (t : TermValue). list_any (has_key keypos t) (filter (λ other. not (has_key keypos j other)) objects) ≡ false) (sym same)
    (none_left (has_key keypos j) objects)

allowed_with : (kind : Kind) (keypos : ℕ) (objects : List TermValue) (o : TermValue) → allows kind keypos objects ≡ true
    → allows kind keypos (with_object kind keypos objects o) ≡ true
allowed_with Set keypos objects o e =
    not_from_false _ (push_key keypos (filter (λ other. not (shares_key keypos (key o keypos) other)) objects) o (key o keypos) refl
    (key_not_left keypos objects (key o keypos))
    (fewer_keys keypos (λ other. not (shares_key keypos (key o keypos) other)) objects (not-true _ e)))
allowed_with Bag keypos objects o e = by_test (list_any (is_same o) objects) refl
  where
    by_test : (b : Bool) → list_any (is_same o) objects ≡ b → allows Bag keypos (cond b objects (objects ++ o ∷ [])) ≡ true
    by_test true there = e
    by_test false new = not_from_false _ (repeats-push objects o (not-true _ e) new)
allowed_with DuplicateBag keypos objects o e = refl

pub insert_allowed : (table : Table) (o : TermValue) → IsTable table → is_object table.keypos o ≡ true → IsTable (insert_object table o)
insert_allowed table o is one = record {
  objects = objects_with table.kind table.keypos table.objects o is.objects one;
  kind = allowed_with table.kind table.keypos table.objects o is.kind;
}

pub inserts_allowed : (objects : List TermValue) (table : Table) → IsTable table → list_all (is_object table.keypos) objects ≡ true
    → IsTable (insert_objects table objects)
inserts_allowed [] table is all = is
inserts_allowed (o ∷ objects) table is all =
    let p = and_parts (is_object table.keypos o) (list_all (is_object table.keypos) objects) all in
    inserts_allowed objects (insert_object table o) (insert_allowed table o is p.0) p.1

pub insert_new_allowed : (objects : List TermValue) (table : Table) → IsTable table → list_all (is_object table.keypos) objects ≡ true
    → IsTable (insert_new_objects table objects)
insert_new_allowed objects table is all = by_test (are_new table objects)
  where
    by_test : (b : Bool) → IsTable (cond b (insert_objects table objects) table)
    by_test true = inserts_allowed objects table is all
    by_test false = is

pub empty_allowed : (kind : Kind) (keypos : ℕ) → IsTable (empty_table kind keypos)
empty_allowed kind keypos = record { objects = refl; kind = by_kind kind }
  where
    by_kind : (kind : Kind) → allows kind keypos [] ≡ true
    by_kind Set = refl
    by_kind Bag = refl
    by_kind DuplicateBag = refl

-- a counter's object has the key
pub counter_allowed : (table : Table) (k : TermValue) (place increment : ℤ) (new : Counted) → update_counter table k place increment ≡ Ok new
    → IsTable table → IsTable new.table
counter_allowed table k place increment new e is =
    let u = updated table k place increment new e in
    subst (λ (t : Table). IsTable t) u.inserted (insert_allowed table u.object is (ap is_some u.key_is))

-- ---- the objects of a key

one_at_most : (keypos : ℕ) (objects : List TermValue) (k : TermValue) → repeats (found keypos objects) ≡ false → length (filter (has_key keypos k) objects) ≤ 1
one_at_most keypos [] k once = omega arith
one_at_most keypos (o ∷ objects) k once =
    let p = repeats-option (key o keypos) (found keypos objects) once in
    by_test (has_key keypos k o) refl p.0 (one_at_most keypos objects k p.1)
  where
    by_test : (b : Bool) → has_key keypos k o ≡ b → ((j : TermValue) → key o keypos ≡ Some j → list_any (is_same j) (found keypos objects) ≡ false)
        → length (filter (has_key keypos k) objects) ≤ 1 → length (cond b (o ∷ filter (has_key keypos k) objects) (filter (has_key keypos k) objects)) ≤ 1
    by_test false has none rest = rest
    by_test true has none rest =
        let absent = sym (any-found keypos k objects) ∙ none k (key_found k (key o keypos) has) in
        let empty : length (filter (has_key keypos k) objects) ≡ 0 = ap length (filter_none (has_key keypos k) objects absent) in
        omega (arith, empty)

allowed_in : (kind wanted : Kind) (keypos : ℕ) (objects : List TermValue) → kind ≡ wanted → allows kind keypos objects ≡ true
    → allows wanted keypos objects ≡ true
allowed_in kind wanted keypos objects e is = subst (λ (d : Kind). allows d keypos objects ≡ true) e is

pub one_in_a_set : (table : Table) (k : TermValue) → table.kind ≡ Set → IsTable table → length (objects_of table k) ≤ 1
one_in_a_set table k set is =
    let mine = filter (has_key table.keypos k) table.objects in
    let once = not-true _ (allowed_in table.kind Set table.keypos table.objects set is.kind) in
    let few = one_at_most table.keypos table.objects k once in
    let same = length_permutation mine (ascending mine) (IsPermutation-sorted_by (λ t. t) mine) in
    omega (arith, few, same)

pub once_in_a_bag : (table : Table) (k : TermValue) → table.kind ≡ Bag → IsTable table → repeats (objects_of table k) ≡ false
once_in_a_bag table k bag is =
    let mine = filter (has_key table.keypos k) table.objects in
    let once = not-true _ (allowed_in table.kind Bag table.keypos table.objects bag is.kind) in
    repeats-IsPermutation mine (ascending mine) (IsPermutation-sorted_by (λ t. t) mine) (repeats-filter (has_key table.keypos k) table.objects once)
