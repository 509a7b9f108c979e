-- Lemmas: the order of two values is equal where the values are, and so the test on two values is equality.
use Rattle.std.specs.Prelude.{◌≡◌, ℕ, ℤ, Bool, true, false, ◌↔◌, IsTrue, List, [], ◌∷◌, refl}
use Rattle.std.proofs.Common.{ap, subst}
use Rattle.std.proofs.lemmas.Bool.Decides.{same_from_decides}
use Rattle.std.specs.declared.cmp.Ordering.{Ordering}
use Rattle.std.specs.declared.cmp.Ordering.TheVariants.{Less, Equal, Greater}
use Rattle.std.specs.Ordering.{nat_cmp, int_cmp, bool_cmp, ordering_then, is_eq, MatchOrdering}
use Rattle.std.specs.Cmp.Lexicographic.{slice_cmp}
use Rattle.std.proofs.lemmas.Cmp.{ranked, int_ranked, tied_itself}
use Rattle.term_model.specs.TermValue.{TermValue, integer, atom, tuple, mapping, nil, cons, bits}
use Rattle.term_model.specs.Order.{order, is_same, by_count}
use Rattle.term_model.specs.OrderCode.{order_total}

both_equal : (o p : Ordering) → ordering_then o p ≡ Equal → (o ≡ Equal) × (p ≡ Equal)
both_equal Less p e = cc
both_equal Equal p e = (refl, e)
both_equal Greater p e = cc

when_equal : (P Q R : Type 0) (o : Ordering) → MatchOrdering o P Q R → o ≡ Equal → Q
when_equal P Q R Less h e = cc
when_equal P Q R Equal h e = h
when_equal P Q R Greater h e = cc

same_nat : (x y : ℕ) → nat_cmp x y ≡ Equal → x ≡ y
same_nat x y e = when_equal _ _ _ (nat_cmp x y) (ranked x y (nat_cmp x y) refl) e

same_int : (x y : ℤ) → int_cmp x y ≡ Equal → x ≡ y
same_int x y e = when_equal _ _ _ (int_cmp x y) (int_ranked x y (int_cmp x y) refl) e

same_bool : (x y : Bool) → bool_cmp x y ≡ Equal → x ≡ y
same_bool false false e = refl
same_bool false true e = cc
same_bool true false e = cc
same_bool true true e = refl

same_list : {A : Type 0} (R : A → A → Ordering) → ((x y : A) → R x y ≡ Equal → x ≡ y) → (xs ys : List A) → slice_cmp R xs ys ≡ Equal → xs ≡ ys
same_list R same [] [] e = refl
same_list R same [] (y ∷ ys) e = cc
same_list R same (x ∷ xs) [] e = cc
same_list R same (x ∷ xs) (y ∷ ys) e =
    let p = both_equal (R x y) (slice_cmp R xs ys) e in λ i. same x y p.0 i ∷ same_list R same xs ys p.1 i

-- values that compare equal are equal
pub equal_from_order : (a b : TermValue) → order a b ≡ Equal → a ≡ b
equal_from_order (integer y) (integer z) e = ap integer (same_int y z e)
equal_from_order (atom a) (atom b) e = ap atom (same_list nat_cmp same_nat a b e)
equal_from_order (tuple t) (tuple u) e = ap tuple (equal_from_order t u (both_equal (by_count t u) (order t u) e).1)
equal_from_order (mapping ks vs) (mapping ls ws) e =
    let p = both_equal (by_count ks ls) (ordering_then (order ks ls) (order vs ws)) e in
    let q = both_equal (order ks ls) (order vs ws) p.1 in
    λ i. mapping (equal_from_order ks ls q.0 i) (equal_from_order vs ws q.1 i)
equal_from_order nil nil e = refl
equal_from_order (cons t ts) (cons u us) e =
    let p = both_equal (order t u) (order ts us) e in λ i. cons (equal_from_order t u p.0 i) (equal_from_order ts us p.1 i)
equal_from_order (bits a) (bits b) e = ap bits (same_list bool_cmp same_bool a b e)
equal_from_order a b e = cc

pub order_decides : (a b : TermValue) → (order a b ≡ Equal) ↔ (a ≡ b)
order_decides a b = (equal_from_order a b, λ e. subst (λ (c : TermValue). order a c ≡ Equal) e (tied_itself order_total a))

equal_order : (o : Ordering) → is_eq o ≡ true → o ≡ Equal
equal_order Less e = cc
equal_order Equal e = refl
equal_order Greater e = cc

pub equal_from_same : (a b : TermValue) → is_same a b ≡ true → a ≡ b
equal_from_same a b e = equal_from_order a b (equal_order (order a b) e)

pub same_self : (a : TermValue) → is_same a a ≡ true
same_self a = ap is_eq (tied_itself order_total a)

pub same_decides : (a b : TermValue) → IsTrue (is_same a b) ↔ (a ≡ b)
same_decides a b = (equal_from_same a b, λ e. subst (λ (c : TermValue). is_same a c ≡ true) e (same_self a))

-- a test that says whether two values are equal is this one
pub same_by : (r : Bool) (a b : TermValue) → IsTrue r ↔ (a ≡ b) → r ≡ is_same a b
same_by r a b h = same_from_decides r (is_same a b) h (same_decides a b)
