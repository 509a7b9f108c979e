-- Lemmas: an operation on one key touches no other.
use Rattle.std.proofs.Common.{◌≡◌, ℕ, ℤ, Bool, true, false, cond, List, [], ◌∷◌, Some, Ok, ⊎_elim, refl, sym, ap, ◌∙◌, subst}
use Rattle.std.specs.Prelude.{◌&&◌, ◌||◌, find}
use Rattle.std.specs.List.{list_any}
use Rattle.std.proofs.lemmas.Bool.{cases_Bool, both_ways, or_parts, or_left, and_right}
use Rattle.term_model.specs.TermValue.{TermValue, key}
use Rattle.term_model.specs.Order.{is_same}
use Rattle.term_model.specs.Same.{equal_from_same, same_self}
use Rattle.term_model.specs.Pairs.{repeats}
use Rattle.term_model.specs.declared.kind.Kind.TheVariants.{Set}
use Rattle.table_model.specs.Table.{Table, has_key, is_key}
use Rattle.table_model.specs.Operations.{is_member, delete_where, delete_key, delete_object}
use Rattle.table_model.specs.Counter.{Counted, update_counter}
use Rattle.table_model.specs.Touched.{is_touched}
use Rattle.table_model.specs.Walk.{walked_keys, touched_in_walk}
use Rattle.table_model.proofs.Deleted.{other_keys_not_deleted, other_objects_not_deleted}
use Rattle.table_model.proofs.TouchedKeys.{same_flips, not_touched, any-touched_among}
use Rattle.table_model.proofs.Counters.{increments}
use Rattle.table_model.proofs.Walks.{key_walked, touched_in_walk_is, touched_in_walk_once}

first_is : (k x : TermValue) (xs : List TermValue) → ((j : TermValue) → is_same j k ≡ false → list_any (is_same j) (x ∷ xs) ≡ false) → x ≡ k
first_is k x xs others = ⊎_elim
    (λ (here : is_same x k ≡ true). equal_from_same x k here)
    (λ (apart : is_same x k ≡ false). absurd (both_ways _ (others x apart) (or_left (is_same x x) (list_any (is_same x) xs) (same_self x))))
    (cases_Bool (is_same x k))

-- terms without repeats that have no other member than k
alone : (k : TermValue) (ts : List TermValue) → repeats ts ≡ false → ((j : TermValue) → is_same j k ≡ false → list_any (is_same j) ts ≡ false)
    → ts ≡ cond (list_any (is_same k) ts) (k ∷ []) []
alone k [] once others = refl
alone k (x ∷ []) once others =
    let here = first_is k x [] others in
    let there : list_any (is_same k) (x ∷ []) ≡ true =
    or_left (is_same k x) false (subst (λ (t : TermValue). is_same k t ≡ true) (sym here) (same_self k)) in
    ap (λ (t : TermValue). t ∷ []) here ∙ sym (ap (λ b. cond b (k ∷ []) []) there)
alone k (x ∷ y ∷ ts) once others =
    let first = first_is k x (y ∷ ts) others in
    let second = first_is k y ts (λ j apart. (or_parts (is_same j x) (list_any (is_same j) (y ∷ ts)) (others j apart)).1) in
    let apart = (or_parts (is_same x y) (list_any (is_same x) ts) (or_parts (list_any (is_same x) (y ∷ ts)) (repeats (y ∷ ts)) once).0).0 in
    absurd (both_ways _ apart (subst (λ (t : TermValue). is_same x t ≡ true) (first ∙ sym second) (same_self x)))

-- ---- deletions

delete_alone : (slots : ℕ) (test : TermValue → Bool) (table : Table) (k : TermValue)
    → ((j : TermValue) → is_same j k ≡ false → is_touched table (delete_where test table) j ≡ false)
    → touched_in_walk slots table (delete_where test table) ≡ cond (is_touched table (delete_where test table) k) (k ∷ []) []
delete_alone slots test table k others =
    alone k (touched_in_walk slots table (delete_where test table)) (touched_in_walk_once slots table (delete_where test table))
    (λ j apart. touched_in_walk_is slots test table j ∙ others j apart)
    ∙ ap (λ b. cond b (k ∷ []) []) (touched_in_walk_is slots test table k)

pub delete_key_alone : (slots : ℕ) (table : Table) (k : TermValue)
    → touched_in_walk slots table (delete_key table k) ≡ cond (is_touched table (delete_key table k) k) (k ∷ []) []
delete_key_alone slots table k =
    delete_alone slots (has_key table.keypos k) table k
    (λ j apart. not_touched table (delete_key table k) j (other_keys_not_deleted table k j (same_flips k j ∙ apart)))

pub delete_object_alone : (slots : ℕ) (table : Table) (o k : TermValue) → key o table.keypos ≡ Some k
    → touched_in_walk slots table (delete_object table o) ≡ cond (is_touched table (delete_object table o) k) (k ∷ []) []
delete_object_alone slots table o k e =
    delete_alone slots (is_same o) table k
    (λ j apart. not_touched table (delete_object table o) j (other_objects_not_deleted table o j (ap (is_key j) e ∙ same_flips k j ∙ apart)))

-- ---- counters

found_there : {A : Type 0} (p : A → Bool) (xs : List A) (x : A) → find p xs ≡ Some x → list_any p xs ≡ true
found_there p [] x e = cc
found_there p (y ∷ ys) x e = by_test (p y) e (found_there p ys x)
  where
    by_test : (b : Bool) → cond b (Some y) (find p ys) ≡ Some x → (find p ys ≡ Some x → list_any p ys ≡ true) → (b || list_any p ys) ≡ true
    by_test true e rest = refl
    by_test false e rest = rest e

pub counter_alone : (slots : ℕ) (table : Table) (k : TermValue) (place increment : ℤ) (new : Counted) → table.kind ≡ Set
    → update_counter table k place increment ≡ Ok new → touched_in_walk slots table new.table ≡ cond (is_touched table new.table k) (k ∷ []) []
counter_alone slots table k place increment new set e =
    let i = increments table k place increment new set e in
    let there : is_member table k ≡ true = found_there (has_key table.keypos k) table.objects i.object i.there in
    let among = any-touched_among (walked_keys slots table) table new.table in
    alone k (touched_in_walk slots table new.table) (touched_in_walk_once slots table new.table)
    (λ j apart.
    among j ∙ and_right (list_any (is_same j) (walked_keys slots table)) (is_touched table new.table j)
    (not_touched table new.table j (i.other_keys j (same_flips k j ∙ apart))))
    ∙ ap (λ b. cond b (k ∷ []) []) (among k ∙ ap (λ b. b && is_touched table new.table k) (key_walked slots table k ∙ there))
