-- The objects of a set stay those of a set.
use Rattle.std.proofs.Common.{◌≡◌, ℕ, zero, suc, ◌+◌, ◌≤◌, max, Bool, true, false, cond, not, List, [], ◌∷◌, ◌++◌, filter, length, take, Option, Some, None}
use Rattle.std.proofs.Common.{refl, ap, ◌∙◌, arith, length-append}
use Rattle.std.proofs.lemmas.List.Elements.{filter-append}
use Rattle.dets_term.specs.declared.Kind.TheVariants.{Set}
use Rattle.dets_term.specs.TermValue.{TermValue, key, depth}
use Rattle.dets_term.specs.Parts.{deepest, deepest-push}
use Rattle.dets_term.specs.Same.{equal_from_same}
use Rattle.table_model.specs.Table.{has_key, is_key, shares_key, with_object}
use Rattle.table_model.specs.Sets.{one_object}
use Rattle.dets_machine.specs.Objects.{AreOfSet}

both_longer : (b : Bool) (x : TermValue) (xs ys : List TermValue) → length xs ≤ length ys → length (cond b (x ∷ xs) xs) ≤ length (cond b (x ∷ ys) ys)
both_longer true x xs ys h = omega arith
both_longer false x xs ys h = h

one_longer : (b : Bool) (x : TermValue) (xs ys : List TermValue) → length xs ≤ length ys → length xs ≤ length (cond b (x ∷ ys) ys)
one_longer true x xs ys h = omega arith
one_longer false x xs ys h = h

fewer_by : (p : TermValue → Bool) (b : Bool) (x : TermValue) (xs ys : List TermValue) → length (filter p xs) ≤ length (filter p ys)
    → length (filter p (cond b (x ∷ xs) xs)) ≤ length (filter p (x ∷ ys))
fewer_by p true x xs ys h = both_longer (p x) x (filter p xs) (filter p ys) h
fewer_by p false x xs ys h = one_longer (p x) x (filter p xs) (filter p ys) h

-- no more pass of those that are left
pub length-filter_filter : (p q : TermValue → Bool) (xs : List TermValue) → length (filter p (filter q xs)) ≤ length (filter p xs)
length-filter_filter p q [] = omega arith
length-filter_filter p q (x ∷ xs) = fewer_by p (q x) x (filter q xs) xs (length-filter_filter p q xs)

deepest_by : (b : Bool) (x : TermValue) (xs ys : List TermValue) → deepest xs ≤ deepest ys → deepest (cond b (x ∷ xs) xs) ≤ max (depth x) (deepest ys)
deepest_by true x xs ys h = omega arith
deepest_by false x xs ys h = omega arith

pub deepest-filter : (p : TermValue → Bool) (xs : List TermValue) → deepest (filter p xs) ≤ deepest xs
deepest-filter p [] = omega arith
deepest-filter p (x ∷ xs) = deepest_by (p x) x (filter p xs) xs (deepest-filter p xs)

pub deepest-take : (n : ℕ) (xs : List TermValue) → deepest (take n xs) ≤ deepest xs
deepest-take zero xs = omega arith
deepest-take (suc n) [] = omega arith
deepest-take (suc n) (x ∷ xs) = let rest = deepest-take n xs in omega arith

-- fewer objects are those of a set
pub AreOfSet-filter : (p : TermValue → Bool) (xs : List TermValue) → AreOfSet xs → AreOfSet (filter p xs)
AreOfSet-filter p xs set = record {
  shallow = let less = deepest-filter p xs in let low = set.shallow in omega arith;
  one_of_a_key = λ k. let less = length-filter_filter (has_key 1 k) p xs in let one = set.one_of_a_key k in omega arith;
}

key_here : (k : TermValue) (found : Option TermValue) → is_key k found ≡ true → found ≡ Some k
key_here k None e = cc
key_here k (Some j) e = ap Some (equal_from_same j k e)

one_more : (p : TermValue → Bool) (xs : List TermValue) (o : TermValue) (b : Bool) → p o ≡ b
    → length (filter p (xs ++ o ∷ [])) ≡ length (filter p xs) + length (cond b (o ∷ []) [])
one_more p xs o b e =
    ap length (filter-append p xs (o ∷ [])) ∙ length-append (filter p xs) (filter p (o ∷ []))
    ∙ ap (λ c. length (filter p xs) + length (cond c (o ∷ []) [])) e

-- the objects of any key after one is inserted
one_of_a_key-with_object : (xs : List TermValue) (o k : TermValue) (b : Bool) → has_key 1 k o ≡ b → length (filter (has_key 1 k) xs) ≤ 1
    → length (filter (has_key 1 k) (with_object Set 1 xs o)) ≤ 1
one_of_a_key-with_object xs o k true e one = omega (arith, ap length (one_object 1 xs o k (key_here k (key o 1) e)))
one_of_a_key-with_object xs o k false e one =
    let more = one_more (has_key 1 k) (filter (λ other. not (shares_key 1 (key o 1) other)) xs) o false e in
    let less = length-filter_filter (has_key 1 k) (λ other. not (shares_key 1 (key o 1) other)) xs in
    omega arith

-- an object takes the place of the one with its key
pub AreOfSet-with_object : (xs : List TermValue) (o : TermValue) → AreOfSet xs → depth o ≤ 255 → AreOfSet (with_object Set 1 xs o)
AreOfSet-with_object xs o set low = record {
  shallow =
      let kept = (AreOfSet-filter (λ other. not (shares_key 1 (key o 1) other)) xs set).shallow in
      let whole = deepest-push (filter (λ other. not (shares_key 1 (key o 1) other)) xs) o in
      omega arith;
  one_of_a_key = λ k. one_of_a_key-with_object xs o k (has_key 1 k o) refl (set.one_of_a_key k);
}
