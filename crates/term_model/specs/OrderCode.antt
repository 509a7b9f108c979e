-- Lemmas: the order of terms is total, by a code of values as lists of integers that keeps their order. No code is a
-- front of another one: a value is the rank of its kind and what the kind compares by, in the order in which it does.
use Rattle.std.specs.Prelude.{◌≡◌, ℕ, suc, ℤ, pos, Bool, true, false, cond, List, [], ◌∷◌, map, length, refl}
use Rattle.std.proofs.Common.{arith, ap, ◌∙◌, sym, subst}
use Rattle.std.specs.Ordering.{nat_cmp, int_cmp, bool_cmp, ordering_then}
use Rattle.std.specs.Cmp.{IsTotalOrder}
use Rattle.std.specs.Cmp.Lexicographic.{slice_cmp}
use Rattle.std.proofs.lemmas.Bool.Decides.{nat_tests}
use Rattle.std.proofs.lemmas.Cmp.{lists_total, on_total, int_cmp_total}
use Rattle.term_model.specs.TermValue.{TermValue, integer, atom, tuple, mapping, nil, cons, bits, elements}
use Rattle.term_model.specs.Order.{order, by_count}
use Rattle.term_model.specs.Orderings.{then_assoc, then_equal, nat_cmp-zero-suc, nat_cmp-suc-zero, nat_cmp-suc}

-- numbers, each one more, and 0 at their end
abbrev number_code : List ℕ → List ℤ → List ℤ
number_code [] after = pos 0 ∷ after
number_code (x ∷ xs) after = pos (suc x) ∷ number_code xs after

abbrev digit : Bool → ℕ
digit b = cond b 1 0

abbrev count : TermValue → ℤ
count ts = pos (length (elements ts))

-- the code of a value in front of what follows it
abbrev code : TermValue → List ℤ → List ℤ
code (integer z) after = pos 0 ∷ z ∷ after
code (atom name) after = pos 1 ∷ number_code name after
code (tuple parts) after = pos 2 ∷ count parts ∷ code parts after
code (mapping keys values) after = pos 3 ∷ count keys ∷ code keys (code values after)
code nil after = pos 4 ∷ after
code (cons first rest) after = pos 5 ∷ code first (code rest after)
code (bits bs) after = pos 6 ∷ number_code (map digit bs) after

pos_order : (m n : ℕ) → int_cmp (pos m) (pos n) ≡ nat_cmp m n
pos_order m n = grind (arith, nat_tests)

number_code_order : (xs ys : List ℕ) (r s : List ℤ) → slice_cmp int_cmp (number_code xs r) (number_code ys s)
    ≡ ordering_then (slice_cmp nat_cmp xs ys) (slice_cmp int_cmp r s)
number_code_order [] [] r s = refl
number_code_order [] (y ∷ ys) r s = ap (λ o. ordering_then o (slice_cmp int_cmp r (number_code ys s))) (pos_order 0 (suc y) ∙ nat_cmp-zero-suc y)
number_code_order (x ∷ xs) [] r s = ap (λ o. ordering_then o (slice_cmp int_cmp (number_code xs r) s)) (pos_order (suc x) 0 ∙ nat_cmp-suc-zero x)
number_code_order (x ∷ xs) (y ∷ ys) r s =
    (λ i. ordering_then ((pos_order (suc x) (suc y) ∙ nat_cmp-suc x y) i) (number_code_order xs ys r s i))
    ∙ sym (then_assoc (nat_cmp x y) (slice_cmp nat_cmp xs ys) (slice_cmp int_cmp r s))

digit_order : (x y : Bool) → nat_cmp (digit x) (digit y) ≡ bool_cmp x y
digit_order false false = refl
digit_order false true = refl
digit_order true false = refl
digit_order true true = refl

digits_order : (a b : List Bool) → slice_cmp nat_cmp (map digit a) (map digit b) ≡ slice_cmp bool_cmp a b
digits_order [] [] = refl
digits_order [] (y ∷ ys) = refl
digits_order (x ∷ xs) [] = refl
digits_order (x ∷ xs) (y ∷ ys) = λ i. ordering_then (digit_order x y i) (digits_order xs ys i)

code_order : (a b : TermValue) (r s : List ℤ) → slice_cmp int_cmp (code a r) (code b s) ≡ ordering_then (order a b) (slice_cmp int_cmp r s)
code_order (integer y) (integer z) r s = refl
code_order (atom a) (atom b) r s = number_code_order a b r s
code_order (tuple ts) (tuple us) r s =
    (λ i. ordering_then (pos_order (length (elements ts)) (length (elements us)) i) (code_order ts us r s i))
    ∙ sym (then_assoc (by_count ts us) (order ts us) (slice_cmp int_cmp r s))
code_order (mapping ks vs) (mapping ls ws) r s =
    (λ i. ordering_then (pos_order (length (elements ks)) (length (elements ls)) i) (code_order ks ls (code vs r) (code ws s) i))
    ∙ ap (λ o. ordering_then (by_count ks ls) (ordering_then (order ks ls) o)) (code_order vs ws r s)
    ∙ ap (ordering_then (by_count ks ls)) (sym (then_assoc (order ks ls) (order vs ws) (slice_cmp int_cmp r s)))
    ∙ sym (then_assoc (by_count ks ls) (ordering_then (order ks ls) (order vs ws)) (slice_cmp int_cmp r s))
code_order nil nil r s = refl
code_order (cons t ts) (cons u us) r s =
    code_order t u (code ts r) (code us s)
    ∙ ap (ordering_then (order t u)) (code_order ts us r s)
    ∙ sym (then_assoc (order t u) (order ts us) (slice_cmp int_cmp r s))
code_order (bits a) (bits b) r s =
    number_code_order (map digit a) (map digit b) r s ∙ ap (λ o. ordering_then o (slice_cmp int_cmp r s)) (digits_order a b)
code_order a b r s = refl

by_code : (a b : TermValue) → slice_cmp int_cmp (code a []) (code b []) ≡ order a b
by_code a b = code_order a b [] [] ∙ then_equal (order a b)

pub order_total : IsTotalOrder order
order_total = subst IsTotalOrder (λ i a b. by_code a b i) (on_total (λ a. code a []) (lists_total int_cmp_total))
