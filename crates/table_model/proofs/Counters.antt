-- Lemmas: a counter that is updated.
use Rattle.std.proofs.Common.{◌≡◌, ℕ, zero, suc, ℤ, Bool, true, false, cond, List, [], ◌∷◌, Option, Some, None, Ok, Err, refl, sym, ap, ◌∙◌, subst}
use Rattle.std.specs.Prelude.{◌+ℤ◌, ◌==◌, find, slice_get, slice_set}
use Rattle.std.proofs.lemmas.Bool.{eqb-false}
use Rattle.term_model.specs.TermValue.{TermValue, integer, atom, tuple, mapping, nil, cons, bits, elements, key}
use Rattle.term_model.specs.Same.{equal_from_same}
use Rattle.term_model.specs.declared.kind.Kind.TheVariants.{Set}
use Rattle.table_model.specs.Table.{Table, has_key, is_key, objects_of, insert_object}
use Rattle.table_model.specs.Counter.{OutOfRange, Counted, is_in_range, place_of, integer_of, counter_at, with_element, with_increment, counted}
use Rattle.table_model.specs.Counter.{update_counter, Increments}
use Rattle.table_model.specs.Sets.{in_a_set}
use Rattle.table_model.proofs.Inserted.{other_keys_kept}
use Rattle.table_model.proofs.TouchedKeys.{elements-chain}

-- ---- places of an object

get-set_same : (xs : List TermValue) (n : ℕ) (e x : TermValue) → slice_get xs n ≡ Some x → slice_get (slice_set xs n e) n ≡ Some e
get-set_same [] n e x is = cc
get-set_same (y ∷ xs) zero e x is = refl
get-set_same (y ∷ xs) (suc n) e x is = get-set_same xs n e x is

get-set_other : (xs : List TermValue) (n m : ℕ) (e : TermValue) → (n ≡ m → ⊥) → slice_get (slice_set xs n e) m ≡ slice_get xs m
get-set_other [] n m e other = refl
get-set_other (y ∷ xs) zero zero e other = absurd (other refl)
get-set_other (y ∷ xs) zero (suc m) e other = refl
get-set_other (y ∷ xs) (suc n) zero e other = refl
get-set_other (y ∷ xs) (suc n) (suc m) e other = get-set_other xs n m e (λ same. other (ap suc same))

-- the new element stands in its place
set_here : (object : TermValue) (place : ℕ) (e x : TermValue) → key object place ≡ Some x → key (with_element object place e) place ≡ Some e
set_here (tuple parts) zero e x is = cc
set_here (tuple parts) (suc n) e x is =
    ap (λ ts. slice_get ts n) (elements-chain (slice_set (elements parts) n e)) ∙ get-set_same (elements parts) n e x is
set_here (integer z) place e x is = cc
set_here (atom name) place e x is = cc
set_here (mapping keys values) place e x is = cc
set_here nil place e x is = cc
set_here (cons first rest) place e x is = cc
set_here (bits bs) place e x is = cc

-- and the other places keep theirs
set_elsewhere : (object : TermValue) (place other : ℕ) (e : TermValue) → (place ≡ other → ⊥) → key (with_element object place e) other ≡ key object other
set_elsewhere (tuple parts) zero zero e apart = refl
set_elsewhere (tuple parts) zero (suc m) e apart = ap (λ ts. slice_get ts m) (elements-chain (elements parts))
set_elsewhere (tuple parts) (suc n) zero e apart = refl
set_elsewhere (tuple parts) (suc n) (suc m) e apart =
    ap (λ ts. slice_get ts m) (elements-chain (slice_set (elements parts) n e)) ∙ get-set_other (elements parts) n m e (λ same. apart (ap suc same))
set_elsewhere (integer z) place other e apart = refl
set_elsewhere (atom name) place other e apart = refl
set_elsewhere (mapping keys values) place other e apart = refl
set_elsewhere nil place other e apart = refl
set_elsewhere (cons first rest) place other e apart = refl
set_elsewhere (bits bs) place other e apart = refl

-- ---- what is found

passes_first : {A : Type 0} (p : A → Bool) (y : A) (rest : Option A) (x : A) (b : Bool) → p y ≡ b → (rest ≡ Some x → p x ≡ true) → cond b (Some y) rest ≡ Some x
    → p x ≡ true
passes_first p y rest x true is later e = let same : y ≡ x = cc e in subst (λ z. p z ≡ true) same is
passes_first p y rest x false is later e = later e

found_passes : {A : Type 0} (p : A → Bool) (xs : List A) (x : A) → find p xs ≡ Some x → p x ≡ true
found_passes p [] x e = cc
found_passes p (y ∷ xs) x e = passes_first p y (find p xs) x (p y) refl (found_passes p xs x) e

pub key_found : (k : TermValue) (found : Option TermValue) → is_key k found ≡ true → found ≡ Some k
key_found k None e = cc
key_found k (Some j) e = ap Some (equal_from_same j k e)

pub record IsCounter (keypos place : ℕ) (object : TermValue) (old : ℤ) : Type 0 where
  pub apart : place ≡ keypos → ⊥
  pub integer_there : key object place ≡ Some (integer old)

integer_found : (found : Option TermValue) (old : ℤ) → integer_of found ≡ Some old → found ≡ Some (integer old)
integer_found None old e = cc
integer_found (Some (integer z)) old e = let same : z ≡ old = cc in ap (λ y. Some (integer y)) same
integer_found (Some (atom name)) old e = cc
integer_found (Some (tuple parts)) old e = cc
integer_found (Some (mapping keys values)) old e = cc
integer_found (Some nil) old e = cc
integer_found (Some (cons first rest)) old e = cc
integer_found (Some (bits bs)) old e = cc

is_counter : (keypos place : ℕ) (object : TermValue) (old : ℤ) (b : Bool) → (place == keypos) ≡ b → cond b None (integer_of (key object place)) ≡ Some old
    → IsCounter keypos place object old
is_counter keypos place object old true e is = absurd (cc is)
is_counter keypos place object old false e is = record { apart = eqb-false place keypos e; integer_there = integer_found (key object place) old is }

-- ---- the update

-- how an update went that gave a sum
pub record Updates (table : Table) (k : TermValue) (place increment : ℤ) (new : Counted) : Type 0 where
  pub before : TermValue
  pub there : find (has_key table.keypos k) table.objects ≡ Some before
  pub old : ℤ
  pub counter : counter_at table.keypos (place_of place) before ≡ Some old
  pub sum : new.value ≡ old +ℤ increment
  pub object : TermValue
  pub object_is : object ≡ with_element before (place_of place) (integer new.value)
  pub key_is : key object table.keypos ≡ Some k
  pub inserted : insert_object table object ≡ new.table

abbrev summed : Table → TermValue → ℕ → ℤ → Counted
summed table object place sum = record { value = sum; table = insert_object table (with_element object place (integer sum)) }

updates_by : (table : Table) (k : TermValue) (place increment : ℤ) (object : TermValue) (old : ℤ)
    → find (has_key table.keypos k) table.objects ≡ Some object → counter_at table.keypos (place_of place) object ≡ Some old
    → Updates table k place increment (summed table object (place_of place) (old +ℤ increment))
updates_by table k place increment object old there counter =
    let c = is_counter table.keypos (place_of place) object old (place_of place == table.keypos) refl counter in
    let sum = integer (old +ℤ increment) in
    record {
      before = object;
      there = there;
      old = old;
      counter = counter;
      sum = refl;
      object = with_element object (place_of place) sum;
      object_is = refl;
      key_is = set_elsewhere object (place_of place) table.keypos sum c.apart
          ∙ key_found k (key object table.keypos) (found_passes (has_key table.keypos k) table.objects object there);
      inserted = refl;
    }

in_range : (table : Table) (k : TermValue) (place increment : ℤ) (object : TermValue) (sum : ℤ) (new : Counted) (b : Bool)
    → Updates table k place increment (summed table object (place_of place) sum)
    → cond b (Ok (summed table object (place_of place) sum)) (Err OutOfRange) ≡ Ok new → Updates table k place increment new
in_range table k place increment object sum new true i e =
    let same : summed table object (place_of place) sum ≡ new = cc e in subst (λ (c : Counted). Updates table k place increment c) same i
in_range table k place increment object sum new false i e = absurd (cc e)

with_counter : (table : Table) (k : TermValue) (place increment : ℤ) (new : Counted) (object : TermValue) (c : Option ℤ)
    → find (has_key table.keypos k) table.objects ≡ Some object → counter_at table.keypos (place_of place) object ≡ c
    → with_increment table object (place_of place) increment c ≡ Ok new → Updates table k place increment new
with_counter table k place increment new object None there counter e = absurd (cc e)
with_counter table k place increment new object (Some old) there counter e =
    in_range table k place increment object (old +ℤ increment) new (is_in_range (old +ℤ increment))
    (updates_by table k place increment object old there counter) e

with_found : (table : Table) (k : TermValue) (place increment : ℤ) (new : Counted) (o : Option TermValue)
    → find (has_key table.keypos k) table.objects ≡ o → counted table (place_of place) increment o ≡ Ok new → Updates table k place increment new
with_found table k place increment new None there e = absurd (cc e)
with_found table k place increment new (Some object) there e =
    with_counter table k place increment new object (counter_at table.keypos (place_of place) object) there refl e

pub updated : (table : Table) (k : TermValue) (place increment : ℤ) (new : Counted) → update_counter table k place increment ≡ Ok new
    → Updates table k place increment new
updated table k place increment new e = with_found table k place increment new (find (has_key table.keypos k) table.objects) refl e

pub increments : (table : Table) (k : TermValue) (place increment : ℤ) (new : Counted) → table.kind ≡ Set → update_counter table k place increment ≡ Ok new
    → Increments table k place increment new
increments table k place increment new set e =
    let u = updated table k place increment new e in
    let c = is_counter table.keypos (place_of place) u.before u.old (place_of place == table.keypos) refl u.counter in
    record {
      object = u.before;
      there = u.there;
      old = u.old;
      counter = u.counter;
      sum = u.sum;
      objects = ap (λ (t : Table). objects_of t k) (sym u.inserted) ∙ in_a_set table u.object k set u.key_is ∙ ap (λ (o : TermValue). o ∷ []) u.object_is;
      in_place = set_here u.before (place_of place) (integer new.value) (integer u.old) c.integer_there;
      other_keys = λ j other. ap (λ (t : Table). objects_of t j) (sym u.inserted) ∙ other_keys_kept table u.object j (ap (is_key j) u.key_is ∙ other);
    }
