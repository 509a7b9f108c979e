-- Lemmas: tables that are the same are walked alike.
use Rattle.std.proofs.Common.{◌≡◌, ℕ, true, false, List, [], ◌∷◌, ◌++◌, length, Some, ⊎_elim, refl, sym, ap, ◌∙◌, subst}
use Rattle.std.specs.Prelude.{◌||◌, flat_map}
use Rattle.std.specs.List.{list_any, AllByRecursion}
use Rattle.std.specs.Ordering.{is_lt}
use Rattle.std.proofs.lemmas.Bool.{cases_Bool, both_ways, or_parts, or_cases, false_from_ne_true}
use Rattle.std.proofs.lemmas.List.Sorted.{length_permutation}
use Rattle.term_model.specs.TermValue.{TermValue, key}
use Rattle.term_model.specs.Order.{order, is_same}
use Rattle.term_model.specs.Same.{equal_from_same, same_self}
use Rattle.term_model.specs.Sorting.{Follows, Adjacent-sorted_by}
use Rattle.term_model.specs.Adjacent.{Adjacent}
use Rattle.term_model.specs.Pairs.{repeats}
use Rattle.table_model.specs.Table.{Table, objects_of}
use Rattle.table_model.specs.Operations.{IsSameTable}
use Rattle.table_model.specs.Walk.{keys_in, walk_place, walked_keys, walked}
use Rattle.table_model.proofs.Placing.{less_up, less_flips, neither}
use Rattle.table_model.proofs.SameTables.{member_same}
use Rattle.table_model.proofs.Walks.{keys_same, keys_once, key_walked}

-- ---- keys that ascend by their places

abbrev Above : ℕ → TermValue → TermValue → Type 0
Above slots j k = is_lt (order (walk_place slots j) (walk_place slots k)) ≡ true

abbrev Ascends : ℕ → List TermValue → Type 0
Ascends slots [] = Unit {0}
Ascends slots (k ∷ ks) = AllByRecursion (Above slots k) ks × Ascends slots ks

same_place : (slots : ℕ) (j k : TermValue) → walk_place slots j ≡ walk_place slots k → j ≡ k
same_place slots j k e = let found : Some j ≡ Some k = ap (λ t. key t 2) e in cc found

next_above : (slots : ℕ) (j k : TermValue) → Follows (walk_place slots) j k → is_same j k ≡ false → Above slots j k
next_above slots j k up apart = ⊎_elim
    (λ (less : is_lt (order (walk_place slots j) (walk_place slots k)) ≡ true). less)
    (λ (not_less : is_lt (order (walk_place slots j) (walk_place slots k)) ≡ false).
    absurd (both_ways _ apart (subst (λ (t : TermValue). is_same j t ≡ true) (same_place slots j k (neither _ _ not_less up)) (same_self j))))
    (cases_Bool (is_lt (order (walk_place slots j) (walk_place slots k))))

all_behind : (slots : ℕ) (j k : TermValue) (ks : List TermValue) → Above slots j k → Adjacent (Follows (walk_place slots)) (k ∷ ks)
    → AllByRecursion (Above slots j) (k ∷ ks)
all_behind slots j k [] above up = (above, tt)
all_behind slots j k (l ∷ ks) above up =
    (above, all_behind slots j l ks (less_up (walk_place slots j) (walk_place slots k) (walk_place slots l) above up.0) up.1)

first_behind : (slots : ℕ) (k : TermValue) (ks : List TermValue) → Adjacent (Follows (walk_place slots)) (k ∷ ks) → list_any (is_same k) ks ≡ false
    → AllByRecursion (Above slots k) ks
first_behind slots k [] up once = tt
first_behind slots k (l ∷ ks) up once =
    all_behind slots k l ks (next_above slots k l up.0 (or_parts (is_same k l) (list_any (is_same k) ks) once).0) up.1

ascends : (slots : ℕ) (ks : List TermValue) → Adjacent (Follows (walk_place slots)) ks → repeats ks ≡ false → Ascends slots ks
ascends slots [] up once = tt
ascends slots (k ∷ ks) up once =
    let parts = or_parts (list_any (is_same k) ks) (repeats ks) once in (first_behind slots k ks up parts.0, ascends slots ks up.1 parts.1)

-- ---- such keys are one list, if they are the same keys

found_above : (slots : ℕ) (j k : TermValue) (ks : List TermValue) → AllByRecursion (Above slots j) ks → list_any (is_same k) ks ≡ true → Above slots j k
found_above slots j k [] all there = absurd (cc there)
found_above slots j k (l ∷ ks) all there = ⊎_elim
    (λ here. subst (λ (t : TermValue). Above slots j t) (sym (equal_from_same k l here)) all.0)
    (λ later. found_above slots j k ks all.1 later)
    (or_cases (is_same k l) (list_any (is_same k) ks) there)

not_behind : (slots : ℕ) (k : TermValue) (ks : List TermValue) → AllByRecursion (Above slots k) ks → list_any (is_same k) ks ≡ false
not_behind slots k ks all = false_from_ne_true _ (λ there.
    let less = found_above slots k k ks all there in both_ways _ (less_flips (walk_place slots k) (walk_place slots k) less) less)

alike_first : (slots : ℕ) (j k : TermValue) (js ks : List TermValue) → Ascends slots (j ∷ js) → Ascends slots (k ∷ ks)
    → ((l : TermValue) → list_any (is_same l) (j ∷ js) ≡ list_any (is_same l) (k ∷ ks)) → j ≡ k
alike_first slots j k js ks a b same = ⊎_elim
    (λ here. equal_from_same j k here)
    (λ j_later. ⊎_elim
    (λ here. sym (equal_from_same k j here))
    (λ k_later. absurd (both_ways _ (less_flips (walk_place slots k) (walk_place slots j) (found_above slots k j ks b.0 j_later))
    (found_above slots j k js a.0 k_later)))
    (or_cases (is_same k j) (list_any (is_same k) js) (same k ∙ ap (λ x. x || list_any (is_same k) ks) (same_self k))))
    (or_cases (is_same j k) (list_any (is_same j) ks) (sym (same j) ∙ ap (λ x. x || list_any (is_same j) js) (same_self j)))

alike_rest : (slots : ℕ) (k : TermValue) (js ks : List TermValue) → AllByRecursion (Above slots k) js → AllByRecursion (Above slots k) ks
    → ((l : TermValue) → list_any (is_same l) (k ∷ js) ≡ list_any (is_same l) (k ∷ ks)) → (l : TermValue) → list_any (is_same l) js ≡ list_any (is_same l) ks
alike_rest slots k js ks a b same l = ⊎_elim
    (λ (here : is_same l k ≡ true).
    let it = equal_from_same l k here in
    subst (λ (t : TermValue). list_any (is_same t) js ≡ list_any (is_same t) ks) (sym it) (not_behind slots k js a ∙ sym (not_behind slots k ks b)))
    (λ (other : is_same l k ≡ false).
    sym (ap (λ x. x || list_any (is_same l) js) other) ∙ same l ∙ ap (λ x. x || list_any (is_same l) ks) other)
    (cases_Bool (is_same l k))

one_list : (slots : ℕ) (js ks : List TermValue) → Ascends slots js → Ascends slots ks → ((l : TermValue) → list_any (is_same l) js ≡ list_any (is_same l) ks)
    → js ≡ ks
one_list slots [] [] a b same = refl
one_list slots [] (k ∷ ks) a b same =
    let there = ap (λ x. x || list_any (is_same k) ks) (same_self k) in absurd (both_ways _ (sym (same k)) there)
one_list slots (j ∷ js) [] a b same =
    let there = ap (λ x. x || list_any (is_same j) js) (same_self j) in absurd (both_ways _ (same j) there)
one_list slots (j ∷ js) (k ∷ ks) a b same =
    let first = alike_first slots j k js ks a b same in
    let all = subst (λ (t : TermValue). AllByRecursion (Above slots t) js) first a.0 in
    let both = subst (λ (t : TermValue). (l : TermValue) → list_any (is_same l) (t ∷ js) ≡ list_any (is_same l) (k ∷ ks)) first same in
    ap (λ (t : TermValue). t ∷ js) first ∙ ap (λ ts. k ∷ ts) (one_list slots js ks a.1 b.1 (alike_rest slots k js ks all b.0 both))

-- ---- walks

walk_ascends : (slots : ℕ) (table : Table) → Ascends slots (walked_keys slots table)
walk_ascends slots table = ascends slots (walked_keys slots table) (Adjacent-sorted_by (walk_place slots) (keys_in table)) (keys_once slots table)

pub keys_alike : (slots : ℕ) (a b : Table) → IsSameTable a b → walked_keys slots a ≡ walked_keys slots b
keys_alike slots a b s =
    one_list slots (walked_keys slots a) (walked_keys slots b) (walk_ascends slots a) (walk_ascends slots b)
    (λ k. key_walked slots a k ∙ member_same a b k (s.objects k) ∙ sym (key_walked slots b k))

objects_alike : (ks : List TermValue) (f g : TermValue → List TermValue) → ((k : TermValue) → f k ≡ g k) → flat_map f ks ≡ flat_map g ks
objects_alike [] f g same = refl
objects_alike (k ∷ ks) f g same = ap (λ ts. ts ++ flat_map f ks) (same k) ∙ ap (λ ts. g k ++ ts) (objects_alike ks f g same)

pub walked_alike : (slots : ℕ) (a b : Table) → IsSameTable a b → walked slots a ≡ walked slots b
walked_alike slots a b s =
    ap (flat_map (objects_of a)) (keys_alike slots a b s) ∙ objects_alike (walked_keys slots b) (objects_of a) (objects_of b) s.objects

pub counts_alike : (a b : Table) → IsSameTable a b → length (keys_in a) ≡ length (keys_in b)
counts_alike a b s =
    sym (length_permutation (keys_in a) (walked_keys 1 a) (keys_same 1 a)) ∙ ap length (keys_alike 1 a b s)
    ∙ length_permutation (keys_in b) (walked_keys 1 b) (keys_same 1 b)
