-- Objects that a kind allows for one key.
use Rattle.std.proofs.Common.{◌≡◌, ℕ, Bool, true, false, cond, ◌&&◌, List, [], ◌∷◌, filter, length, Option, Some, None, refl, sym, ap, ◌∙◌, subst}
use Rattle.std.specs.List.{list_all}
use Rattle.std.specs.Ordering.{is_lt, is_le}
use Rattle.std.specs.declared.cmp.Ordering.{Ordering}
use Rattle.std.specs.declared.cmp.Ordering.TheVariants.{Less, Equal, Greater}
use Rattle.std.proofs.lemmas.Bool.{and_parts, leb-true}
use Rattle.term_model.specs.TermValue.{TermValue, key}
use Rattle.term_model.specs.Order.{order, is_same}
use Rattle.term_model.specs.Same.{equal_from_order, equal_from_same}
use Rattle.term_model.specs.Sorted.{placed_by, ascending}
use Rattle.term_model.specs.Sorting.{ascending-few}
use Rattle.term_model.specs.declared.kind.Kind.{Kind}
use Rattle.term_model.specs.declared.kind.Kind.TheVariants.{Set, Bag, DuplicateBag}
use Rattle.table_model.specs.Table.{has_key, is_key}
use Rattle.file_model.specs.Block.{ascend_by, in_order, if_shared, one_key}

pub record HasOneKey (kind : Kind) (keypos : ℕ) (objects : List TermValue) (k : TermValue) : Type 0 where
  pub each : list_all (has_key keypos k) objects ≡ true
  pub ordered : in_order kind objects ≡ true

by_test : (kind : Kind) (keypos : ℕ) (objects : List TermValue) (j k : TermValue) (t : Bool)
    → (list_all (has_key keypos j) objects && in_order kind objects) ≡ t → cond t (Some j) None ≡ Some k → HasOneKey kind keypos objects k
by_test kind keypos objects j k true is e =
    let same : j ≡ k = cc e in
    let p = and_parts (list_all (has_key keypos j) objects) (in_order kind objects) is in
    record { each = subst (λ x. list_all (has_key keypos x) objects ≡ true) same p.0; ordered = p.1 }
by_test kind keypos objects j k false is e = absurd (cc e)

shared : (kind : Kind) (keypos : ℕ) (objects : List TermValue) (j : Option TermValue) (k : TermValue)
    → if_shared kind keypos objects j ≡ Some k → HasOneKey kind keypos objects k
shared kind keypos objects None k e = absurd (cc e)
shared kind keypos objects (Some j) k e = by_test kind keypos objects j k (list_all (has_key keypos j) objects && in_order kind objects) refl e

pub has_one_key : (kind : Kind) (keypos : ℕ) (objects : List TermValue) (k : TermValue) → one_key kind keypos objects ≡ Some k
    → HasOneKey kind keypos objects k
has_one_key kind keypos [] k e = absurd (cc e)
has_one_key kind keypos (first ∷ rest) k e = shared kind keypos (first ∷ rest) (key first keypos) k e

-- ---- in order

first_stays : (t u : TermValue) (us : List TermValue) (o : Ordering) → order t u ≡ o → is_le o ≡ true → placed_by (λ x. x) u us ≡ u ∷ us
    → cond (is_lt o) (t ∷ u ∷ us) (u ∷ placed_by (λ x. x) t us) ≡ t ∷ u ∷ us
first_stays t u us Less is le go = refl
first_stays t u us Equal is le go =
    let same = equal_from_order t u is in subst (λ (x : TermValue). u ∷ placed_by (λ y. y) x us ≡ x ∷ u ∷ us) (sym same) (ap (λ xs. u ∷ xs) go)
first_stays t u us Greater is le go = absurd (cc le)

placed_first : (t : TermValue) (ts : List TermValue) → ascend_by is_le (t ∷ ts) ≡ true → placed_by (λ x. x) t ts ≡ t ∷ ts
placed_first t [] e = refl
placed_first t (u ∷ us) e =
    let p = and_parts (is_le (order t u)) (ascend_by is_le (u ∷ us)) e in first_stays t u us (order t u) refl p.0 (placed_first u us p.1)

rest_ascends : (t : TermValue) (ts : List TermValue) → ascend_by is_le (t ∷ ts) ≡ true → ascend_by is_le ts ≡ true
rest_ascends t [] e = refl
rest_ascends t (u ∷ us) e = (and_parts (is_le (order t u)) (ascend_by is_le (u ∷ us)) e).1

ascending_stays : (ts : List TermValue) → ascend_by is_le ts ≡ true → ascending ts ≡ ts
ascending_stays [] e = refl
ascending_stays (t ∷ ts) e =
    ap (λ xs. placed_by (λ x. x) t xs) (ascending_stays ts (rest_ascends t ts e)) ∙ placed_first t ts e

le_from_lt : (o : Ordering) → is_lt o ≡ true → is_le o ≡ true
le_from_lt Less e = refl
le_from_lt Equal e = absurd (cc e)
le_from_lt Greater e = absurd (cc e)

weaker : (ts : List TermValue) → ascend_by is_lt ts ≡ true → ascend_by is_le ts ≡ true
weaker [] e = refl
weaker (t ∷ []) e = refl
weaker (t ∷ u ∷ ts) e =
    let p = and_parts (is_lt (order t u)) (ascend_by is_lt (u ∷ ts)) e in
    rw (le_from_lt (order t u) p.0) (weaker (u ∷ ts) p.1)

-- objects in order stand as a key's objects do
pub in_order_stays : (kind : Kind) (ts : List TermValue) → in_order kind ts ≡ true → ascending ts ≡ ts
in_order_stays Set ts e = ascending-few ts (leb-true (length ts) 1 e)
in_order_stays Bag ts e = ascending_stays ts (weaker ts e)
in_order_stays DuplicateBag ts e = ascending_stays ts e

-- ---- of one key and of another

pub filter_all : {X : Type 0} (p : X → Bool) (xs : List X) → list_all p xs ≡ true → filter p xs ≡ xs
filter_all p [] e = refl
filter_all p (x ∷ xs) e = let h = and_parts (p x) (list_all p xs) e in rw h.0 (ap (λ ys. x ∷ ys) (filter_all p xs h.1))

other_key : (k other : TermValue) (found : Option TermValue) → is_key k found ≡ true → is_same k other ≡ false → is_key other found ≡ false
other_key k other None e d = cc
other_key k other (Some f) e d = rw (equal_from_same f k e) d

pub filter_other : (keypos : ℕ) (k other : TermValue) (xs : List TermValue) → list_all (has_key keypos k) xs ≡ true → is_same k other ≡ false
    → filter (has_key keypos other) xs ≡ []
filter_other keypos k other [] e d = refl
filter_other keypos k other (x ∷ xs) e d =
    let h = and_parts (has_key keypos k x) (list_all (has_key keypos k) xs) e in
    rw (other_key k other (key x keypos) h.0 d) (filter_other keypos k other xs h.1 d)
