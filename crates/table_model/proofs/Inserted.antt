-- Lemmas: what inserted objects leave of each key.
use Rattle.std.proofs.Common.{◌≡◌, ℕ, Bool, true, false, cond, not, ◌&&◌, ◌||◌, List, [], ◌∷◌, ◌++◌, filter, Option, Some, None, append-nil, refl}
use Rattle.std.proofs.Common.{sym, ap, ◌∙◌, subst}
use Rattle.std.specs.List.{list_any}
use Rattle.std.proofs.lemmas.Bool.{or_parts, and_right}
use Rattle.std.proofs.lemmas.List.Elements.{filter-append}
use Rattle.std.proofs.lemmas.List.Sorted.{list_any-IsPermutation}
use Rattle.term_model.specs.TermValue.{TermValue, key}
use Rattle.term_model.specs.Order.{is_same}
use Rattle.term_model.specs.Sorted.{ascending}
use Rattle.term_model.specs.Sorting.{IsPermutation-sorted_by}
use Rattle.term_model.specs.Same.{equal_from_same, same_self}
use Rattle.term_model.specs.declared.kind.Kind.{Kind}
use Rattle.term_model.specs.declared.kind.Kind.TheVariants.{Set, Bag, DuplicateBag}
use Rattle.table_model.specs.Table.{Table, has_key, is_key, shares_key, objects_of, with_object, insert_object}
use Rattle.table_model.specs.Operations.{insert_objects}
use Rattle.table_model.proofs.Placing.{ascending_behind}

-- ---- filters

by_tests : {A : Type 0} (p : A → Bool) (x : A) (xs kept : List A) (b c : Bool) → (b ≡ true → c ≡ false) → filter p kept ≡ filter p xs → p x ≡ c
    → filter p (cond (not b) (x ∷ kept) kept) ≡ cond c (x ∷ filter p xs) (filter p xs)
by_tests p x xs kept true true so same e = let no : true ≡ false = so refl in cc
by_tests p x xs kept true false so same e = same
by_tests p x xs kept false c so same e = ap (λ t. cond t (x ∷ filter p kept) (filter p kept)) e ∙ ap (λ ys. cond c (x ∷ ys) ys) same

-- what passes p stays where only such elements are left out that do not
pub filter-without : {A : Type 0} (p q : A → Bool) → ((x : A) → q x ≡ true → p x ≡ false) → (xs : List A) → filter p (filter (λ x. not (q x)) xs) ≡ filter p xs
filter-without p q so [] = refl
filter-without p q so (x ∷ xs) = by_tests p x xs (filter (λ y. not (q y)) xs) (q x) (p x) (so x) (filter-without p q so xs) refl

pub filter-push_other : {A : Type 0} (p : A → Bool) (xs : List A) (x : A) → p x ≡ false → filter p (xs ++ x ∷ []) ≡ filter p xs
filter-push_other p xs x e =
    filter-append p xs (x ∷ []) ∙ ap (λ b. filter p xs ++ cond b (x ∷ []) []) e ∙ append-nil (filter p xs)

pub filter-push : {A : Type 0} (p : A → Bool) (xs : List A) (x : A) → p x ≡ true → filter p (xs ++ x ∷ []) ≡ filter p xs ++ x ∷ []
filter-push p xs x e = filter-append p xs (x ∷ []) ∙ ap (λ b. filter p xs ++ cond b (x ∷ []) []) e

-- whether a term is among those that pass a test
pub any-filter : (k : TermValue) (test : TermValue → Bool) (ts : List TermValue) → list_any (is_same k) (filter test ts) ≡ (list_any (is_same k) ts && test k)
any-filter k test [] = refl
any-filter k test (t ∷ ts) = by_test k test t ts (is_same k t) (test t) refl refl (any-filter k test ts)
  where
    by_test : (k : TermValue) (test : TermValue → Bool) (t : TermValue) (ts : List TermValue) (same b : Bool) → is_same k t ≡ same → test t ≡ b
        → list_any (is_same k) (filter test ts) ≡ (list_any (is_same k) ts && test k)
        → list_any (is_same k) (cond b (t ∷ filter test ts) (filter test ts)) ≡ ((same || list_any (is_same k) ts) && test k)
    by_test k test t ts true true e f rest =
        ap (λ c. c || list_any (is_same k) (filter test ts)) e ∙ sym (subst (λ (u : TermValue). test u ≡ true) (sym (equal_from_same k t e)) f)
    by_test k test t ts true false e f rest =
        let fails : test k ≡ false = subst (λ (u : TermValue). test u ≡ false) (sym (equal_from_same k t e)) f in
        rest ∙ and_right (list_any (is_same k) ts) (test k) fails ∙ sym fails
    by_test k test t ts false true e f rest = ap (λ c. c || list_any (is_same k) (filter test ts)) e ∙ rest
    by_test k test t ts false false e f rest = rest

-- ---- keys

-- an object has one key at most
pub one_key : (j k : TermValue) (found : Option TermValue) → is_key j found ≡ true → is_same j k ≡ false → is_key k found ≡ false
one_key j k None e other = cc
one_key j k (Some found) e other = subst (λ (t : TermValue). is_same t k ≡ false) (sym (equal_from_same found j e)) other

other_key : (keypos : ℕ) (k other : TermValue) (mine : Option TermValue) → is_key k mine ≡ false → shares_key keypos mine other ≡ true
    → has_key keypos k other ≡ false
other_key keypos k other None e shares = cc
other_key keypos k other (Some j) e shares = one_key j k (key other keypos) shares e

-- ---- one object

kept_by_kind : (kind : Kind) (keypos : ℕ) (objects : List TermValue) (o k : TermValue) → has_key keypos k o ≡ false
    → filter (has_key keypos k) (with_object kind keypos objects o) ≡ filter (has_key keypos k) objects
kept_by_kind Set keypos objects o k e =
    filter-push_other (has_key keypos k) (filter (λ other. not (shares_key keypos (key o keypos) other)) objects) o e
    ∙ filter-without (has_key keypos k) (shares_key keypos (key o keypos)) (λ other shares. other_key keypos k other (key o keypos) e shares) objects
kept_by_kind Bag keypos objects o k e = by_test (list_any (is_same o) objects)
  where
    by_test : (b : Bool) → filter (has_key keypos k) (cond b objects (objects ++ o ∷ [])) ≡ filter (has_key keypos k) objects
    by_test true = refl
    by_test false = filter-push_other (has_key keypos k) objects o e
kept_by_kind DuplicateBag keypos objects o k e = filter-push_other (has_key keypos k) objects o e

-- the objects of a key that an inserted object does not have
pub other_keys_kept : (table : Table) (o k : TermValue) → has_key table.keypos k o ≡ false → objects_of (insert_object table o) k ≡ objects_of table k
other_keys_kept table o k e = ap ascending (kept_by_kind table.kind table.keypos table.objects o k e)

-- the same of a list of objects
pub other_keys_kept_by_all : (objects : List TermValue) (table : Table) (k : TermValue) → list_any (has_key table.keypos k) objects ≡ false
    → objects_of (insert_objects table objects) k ≡ objects_of table k
other_keys_kept_by_all [] table k e = refl
other_keys_kept_by_all (o ∷ objects) table k e =
    let p = or_parts (has_key table.keypos k o) (list_any (has_key table.keypos k) objects) e in
    other_keys_kept_by_all objects (insert_object table o) k p.1 ∙ other_keys_kept table o k p.0

-- ---- an object is added

has_its_key : (k : TermValue) (found : Option TermValue) → found ≡ Some k → is_key k found ≡ true
has_its_key k found e = ap (is_key k) e ∙ same_self k

added : (keypos : ℕ) (objects : List TermValue) (o k : TermValue) → key o keypos ≡ Some k
    → ascending (filter (has_key keypos k) (objects ++ o ∷ [])) ≡ ascending (ascending (filter (has_key keypos k) objects) ++ o ∷ [])
added keypos objects o k e =
    ap ascending (filter-push (has_key keypos k) objects o (has_its_key k (key o keypos) e))
    ∙ ascending_behind (filter (has_key keypos k) objects) o

pub in_a_duplicate_bag : (table : Table) (o k : TermValue) → table.kind ≡ DuplicateBag → key o table.keypos ≡ Some k
    → objects_of (insert_object table o) k ≡ ascending (objects_of table k ++ o ∷ [])
in_a_duplicate_bag table o k kind e =
    ap (λ (d : Kind). ascending (filter (has_key table.keypos k) (with_object d table.keypos table.objects o))) kind ∙ added table.keypos table.objects o k e

-- an object is among those of its key where it is in the table
pub among_its_key : (table : Table) (o k : TermValue) → key o table.keypos ≡ Some k
    → list_any (is_same o) (objects_of table k) ≡ list_any (is_same o) table.objects
among_its_key table o k e =
    let mine = filter (has_key table.keypos k) table.objects in
    sym (list_any-IsPermutation (is_same o) mine (ascending mine) (IsPermutation-sorted_by (λ t. t) mine))
    ∙ any-filter o (has_key table.keypos k) table.objects
    ∙ ap (λ b. list_any (is_same o) table.objects && b) (has_its_key k (key o table.keypos) e)
    ∙ and_true (list_any (is_same o) table.objects)
  where
    and_true : (b : Bool) → (b && true) ≡ b
    and_true true = refl
    and_true false = refl

pub in_a_bag : (table : Table) (o k : TermValue) → table.kind ≡ Bag → key o table.keypos ≡ Some k
    → objects_of (insert_object table o) k ≡ cond (list_any (is_same o) (objects_of table k)) (objects_of table k) (ascending (objects_of table k ++ o ∷ []))
in_a_bag table o k kind e =
    ap (λ (d : Kind). ascending (filter (has_key table.keypos k) (with_object d table.keypos table.objects o))) kind
    ∙ by_test (list_any (is_same o) table.objects)
    ∙ ap (λ b. cond b (objects_of table k) (ascending (objects_of table k ++ o ∷ []))) (sym (among_its_key table o k e))
  where
    by_test : (b : Bool) → ascending (filter (has_key table.keypos k) (cond b table.objects (table.objects ++ o ∷ [])))
        ≡ cond b (objects_of table k) (ascending (objects_of table k ++ o ∷ []))
    by_test true = refl
    by_test false = added table.keypos table.objects o k e

pub there_in_a_bag : (table : Table) (o : TermValue) → table.kind ≡ Bag → list_any (is_same o) table.objects ≡ true → insert_object table o ≡ table
there_in_a_bag table o kind there =
    ap (λ (ts : List TermValue). record table { objects = ts })
    (ap (λ (d : Kind). with_object d table.keypos table.objects o) kind ∙ ap (λ b. cond b table.objects (table.objects ++ o ∷ [])) there)
