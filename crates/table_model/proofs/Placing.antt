-- Lemmas: the objects of a key after an operation, from those before it.
use Rattle.std.proofs.Common.{◌≡◌, Bool, true, false, cond, List, [], ◌∷◌, ◌++◌, filter, ⊎_elim, refl, sym, ap, ◌∙◌, subst}
use Rattle.std.specs.List.{AllByRecursion}
use Rattle.std.specs.declared.cmp.Ordering.{Ordering}
use Rattle.std.specs.declared.cmp.Ordering.TheVariants.{Less, Equal, Greater}
use Rattle.std.specs.Ordering.{is_lt, ordering_reverse}
use Rattle.std.proofs.lemmas.Bool.{cases_Bool, both_ways}
use Rattle.term_model.specs.TermValue.{TermValue}
use Rattle.term_model.specs.Order.{order}
use Rattle.term_model.specs.OrderCode.{order_total}
use Rattle.term_model.specs.Same.{equal_from_order}
use Rattle.term_model.specs.Sorted.{placed_by, ascending}
use Rattle.term_model.specs.Sorting.{Follows, Adjacent-sorted_by, less-is}
use Rattle.term_model.specs.Adjacent.{Adjacent}

-- a term in front of the first greater one
abbrev placed : TermValue → List TermValue → List TermValue
placed t ts = placed_by (λ u. u) t ts

-- ---- one less than another

not_both : (r s : Ordering) → s ≡ ordering_reverse r → is_lt r ≡ true → is_lt s ≡ false
not_both Less s e l = ap is_lt e
not_both Equal s e l = cc
not_both Greater s e l = cc

tied : (r s : Ordering) → s ≡ ordering_reverse r → is_lt r ≡ false → is_lt s ≡ false → r ≡ Equal
tied Less s e l m = cc
tied Equal s e l m = refl
tied Greater s e l m = let less : is_lt s ≡ true = ap is_lt e in absurd (both_ways _ m less)

pub less_flips : (a b : TermValue) → is_lt (order a b) ≡ true → is_lt (order b a) ≡ false
less_flips a b l = not_both (order a b) (order b a) (order_total.antisymm b a) l

pub neither : (a b : TermValue) → is_lt (order a b) ≡ false → is_lt (order b a) ≡ false → a ≡ b
neither a b l m = equal_from_order a b (tied (order a b) (order b a) (order_total.antisymm b a) l m)

is_less : (r : Ordering) → r ≡ Less → is_lt r ≡ true
is_less r e = ap is_lt e

less_less : (a b c : TermValue) → is_lt (order a b) ≡ true → is_lt (order b c) ≡ true → is_lt (order a c) ≡ true
less_less a b c l m = is_less (order a c) (order_total.trans a b c (less-is (order a b) l) (less-is (order b c) m))

-- less than a term, and so than one that is not less
pub less_up : (a b c : TermValue) → is_lt (order a b) ≡ true → is_lt (order c b) ≡ false → is_lt (order a c) ≡ true
less_up a b c l m = ⊎_elim
    (λ (up : is_lt (order b c) ≡ true). less_less a b c l up)
    (λ (no : is_lt (order b c) ≡ false). subst (λ (t : TermValue). is_lt (order a t) ≡ true) (neither b c no m) l)
    (cases_Bool (is_lt (order b c)))

-- ---- two terms are placed in either order

pub placed_swap : (a b : TermValue) (ts : List TermValue) → placed a (placed b ts) ≡ placed b (placed a ts)
placed_swap a b [] = by_order (is_lt (order a b)) (is_lt (order b a)) refl refl
  where
    by_order : (l m : Bool) → is_lt (order a b) ≡ l → is_lt (order b a) ≡ m → cond l (a ∷ b ∷ []) (b ∷ a ∷ []) ≡ cond m (b ∷ a ∷ []) (a ∷ b ∷ [])
    by_order true true e f = absurd (both_ways _ (less_flips a b e) f)
    by_order true false e f = refl
    by_order false true e f = refl
    by_order false false e f = let same = neither a b e f in
        subst (λ (t : TermValue). b ∷ t ∷ [] ≡ t ∷ b ∷ []) (sym same) refl
placed_swap a b (t ∷ ts) = by_first (is_lt (order a t)) (is_lt (order b t)) refl refl (placed_swap a b ts)
  where
    both_low : (l m : Bool) → is_lt (order a b) ≡ l → is_lt (order b a) ≡ m
        → cond l (a ∷ b ∷ t ∷ ts) (b ∷ a ∷ t ∷ ts) ≡ cond m (b ∷ a ∷ t ∷ ts) (a ∷ b ∷ t ∷ ts)
    both_low true true e f = absurd (both_ways _ (less_flips a b e) f)
    both_low true false e f = refl
    both_low false true e f = refl
    both_low false false e f = let same = neither a b e f in
        subst (λ (u : TermValue). b ∷ u ∷ t ∷ ts ≡ u ∷ b ∷ t ∷ ts) (sym same) refl

    by_first : (l m : Bool) → is_lt (order a t) ≡ l → is_lt (order b t) ≡ m → placed a (placed b ts) ≡ placed b (placed a ts)
        → placed a (cond m (b ∷ t ∷ ts) (t ∷ placed b ts)) ≡ placed b (cond l (a ∷ t ∷ ts) (t ∷ placed a ts))
    by_first true true e f rest =
        ap (λ x. cond (is_lt (order a b)) (a ∷ b ∷ t ∷ ts) (b ∷ cond x (a ∷ t ∷ ts) (t ∷ placed a ts))) e
        ∙ both_low (is_lt (order a b)) (is_lt (order b a)) refl refl
        ∙ sym (ap (λ x. cond (is_lt (order b a)) (b ∷ a ∷ t ∷ ts) (a ∷ cond x (b ∷ t ∷ ts) (t ∷ placed b ts))) f)
    by_first true false e f rest =
        let above = less_up a t b e f in
        ap (λ x. cond x (a ∷ t ∷ placed b ts) (t ∷ placed a (placed b ts))) e
        ∙ sym (ap (λ x. cond x (b ∷ a ∷ t ∷ ts) (a ∷ cond (is_lt (order b t)) (b ∷ t ∷ ts) (t ∷ placed b ts))) (less_flips a b above)
        ∙ ap (λ x. a ∷ cond x (b ∷ t ∷ ts) (t ∷ placed b ts)) f)
    by_first false true e f rest =
        let above = less_up b t a f e in
        ap (λ x. cond x (a ∷ b ∷ t ∷ ts) (b ∷ cond (is_lt (order a t)) (a ∷ t ∷ ts) (t ∷ placed a ts))) (less_flips b a above)
        ∙ ap (λ x. b ∷ cond x (a ∷ t ∷ ts) (t ∷ placed a ts)) e
        ∙ sym (ap (λ x. cond x (b ∷ t ∷ placed a ts) (t ∷ placed b (placed a ts))) f)
    by_first false false e f rest =
        ap (λ x. cond x (a ∷ t ∷ placed b ts) (t ∷ placed a (placed b ts))) e
        ∙ ap (λ us. t ∷ us) rest
        ∙ sym (ap (λ x. cond x (b ∷ t ∷ placed a ts) (t ∷ placed b (placed a ts))) f)

-- a term at the end of a list is placed among the others
pub ascending-push : (ts : List TermValue) (t : TermValue) → ascending (ts ++ t ∷ []) ≡ placed t (ascending ts)
ascending-push [] t = refl
ascending-push (u ∷ ts) t = ap (placed u) (ascending-push ts t) ∙ placed_swap u t (ascending ts)

-- ---- a filter of terms in order

abbrev AllAbove : TermValue → List TermValue → Type 0
AllAbove t ts = AllByRecursion (λ u. is_lt (order t u) ≡ true) ts

-- less than the first of terms in order, and so than each
all_above : (t u : TermValue) (ts : List TermValue) → is_lt (order t u) ≡ true → Adjacent (Follows (λ x. x)) (u ∷ ts) → AllAbove t (u ∷ ts)
all_above t u [] l up = (l, tt)
all_above t u (v ∷ ts) l up = (l, all_above t v ts (less_up t u v l up.0) up.1)

above-filter : (q : TermValue → Bool) (t : TermValue) (ts : List TermValue) → AllAbove t ts → AllAbove t (filter q ts)
above-filter q t [] a = tt
above-filter q t (u ∷ ts) a = by_test (q u) a.0 (above-filter q t ts a.1)
  where
    by_test : (b : Bool) → is_lt (order t u) ≡ true → AllAbove t (filter q ts) → AllAbove t (cond b (u ∷ filter q ts) (filter q ts))
    by_test true l rest = (l, rest)
    by_test false l rest = rest

placed_first : (t : TermValue) (ts : List TermValue) → AllAbove t ts → placed t ts ≡ t ∷ ts
placed_first t [] a = refl
placed_first t (u ∷ ts) a = ap (λ b. cond b (t ∷ u ∷ ts) (u ∷ placed t ts)) a.0

filter-placed : (q : TermValue → Bool) (t : TermValue) (ts : List TermValue) → Adjacent (Follows (λ x. x)) ts
    → filter q (placed t ts) ≡ cond (q t) (placed t (filter q ts)) (filter q ts)
filter-placed q t [] up = refl
filter-placed q t (u ∷ ts) up = by_order (is_lt (order t u)) (q t) (q u) refl refl refl (filter-placed q t ts up.1)
  where
    by_order : (l a b : Bool) → is_lt (order t u) ≡ l → q t ≡ a → q u ≡ b
        → filter q (placed t ts) ≡ cond (q t) (placed t (filter q ts)) (filter q ts)
        → filter q (cond l (t ∷ u ∷ ts) (u ∷ placed t ts))
        ≡ cond a (placed t (cond b (u ∷ filter q ts) (filter q ts))) (cond b (u ∷ filter q ts) (filter q ts))
    by_order true true b e f g rest =
        let above = above-filter q t (u ∷ ts) (all_above t u ts e up) in
        ap (λ x. cond x (t ∷ filter q (u ∷ ts)) (filter q (u ∷ ts))) f
        ∙ sym (placed_first t (filter q (u ∷ ts)) above)
        ∙ ap (λ x. placed t (cond x (u ∷ filter q ts) (filter q ts))) g
    by_order true false b e f g rest =
        ap (λ x. cond x (t ∷ filter q (u ∷ ts)) (filter q (u ∷ ts))) f ∙ ap (λ x. cond x (u ∷ filter q ts) (filter q ts)) g
    by_order false true true e f g rest =
        ap (λ x. cond x (u ∷ filter q (placed t ts)) (filter q (placed t ts))) g
        ∙ ap (λ us. u ∷ us) (rest ∙ ap (λ x. cond x (placed t (filter q ts)) (filter q ts)) f)
        ∙ sym (ap (λ x. cond x (t ∷ u ∷ filter q ts) (u ∷ placed t (filter q ts))) e)
    by_order false true false e f g rest =
        ap (λ x. cond x (u ∷ filter q (placed t ts)) (filter q (placed t ts))) g ∙ rest ∙ ap (λ x. cond x (placed t (filter q ts)) (filter q ts)) f
    by_order false false b e f g rest =
        ap (λ x. cond x (u ∷ filter q (placed t ts)) (filter q (placed t ts))) g
        ∙ ap (λ us. cond b (u ∷ us) us) (rest ∙ ap (λ x. cond x (placed t (filter q ts)) (filter q ts)) f)

pub filter-ascending : (q : TermValue → Bool) (ts : List TermValue) → filter q (ascending ts) ≡ ascending (filter q ts)
filter-ascending q [] = refl
filter-ascending q (t ∷ ts) =
    filter-placed q t (ascending ts) (Adjacent-sorted_by (λ x. x) ts)
    ∙ ap (λ us. cond (q t) (placed t us) us) (filter-ascending q ts)
    ∙ by_test (q t)
  where
    by_test : (b : Bool) → cond b (placed t (ascending (filter q ts))) (ascending (filter q ts)) ≡ ascending (cond b (t ∷ filter q ts) (filter q ts))
    by_test true = refl
    by_test false = refl

pub filter_swap : (p q : TermValue → Bool) (ts : List TermValue) → filter p (filter q ts) ≡ filter q (filter p ts)
filter_swap p q [] = refl
filter_swap p q (t ∷ ts) = by_tests (p t) (q t) refl refl (filter_swap p q ts)
  where
    by_tests : (a b : Bool) → p t ≡ a → q t ≡ b → filter p (filter q ts) ≡ filter q (filter p ts)
        → filter p (cond b (t ∷ filter q ts) (filter q ts)) ≡ filter q (cond a (t ∷ filter p ts) (filter p ts))
    by_tests true true e f rest =
        ap (λ x. cond x (t ∷ filter p (filter q ts)) (filter p (filter q ts))) e ∙ ap (λ us. t ∷ us) rest
        ∙ sym (ap (λ x. cond x (t ∷ filter q (filter p ts)) (filter q (filter p ts))) f)
    by_tests true false e f rest = rest ∙ sym (ap (λ x. cond x (t ∷ filter q (filter p ts)) (filter q (filter p ts))) f)
    by_tests false true e f rest = ap (λ x. cond x (t ∷ filter p (filter q ts)) (filter p (filter q ts))) e ∙ rest
    by_tests false false e f rest = rest

-- ---- terms that are in order

lowest_first : (t u : TermValue) (ts : List TermValue) (l : Bool) → is_lt (order t u) ≡ l → is_lt (order u t) ≡ false
    → (t ≡ u → placed t ts ≡ t ∷ ts) → cond l (t ∷ u ∷ ts) (u ∷ placed t ts) ≡ t ∷ u ∷ ts
lowest_first t u ts true e up rest = refl
lowest_first t u ts false e up rest =
    let same : t ≡ u = neither t u e up in
    ap (λ us. u ∷ us) (rest same) ∙ subst (λ (v : TermValue). u ∷ v ∷ ts ≡ v ∷ u ∷ ts) (sym same) refl

placed_lowest : (t : TermValue) (ts : List TermValue) → Adjacent (Follows (λ x. x)) (t ∷ ts) → placed t ts ≡ t ∷ ts
placed_lowest t [] up = refl
placed_lowest t (u ∷ ts) up =
    lowest_first t u ts (is_lt (order t u)) refl up.0
    (λ same. placed_lowest t ts (subst (λ (v : TermValue). Adjacent (Follows (λ x. x)) (v ∷ ts)) (sym same) up.1))

ascending_ordered : (ts : List TermValue) → Adjacent (Follows (λ x. x)) ts → ascending ts ≡ ts
ascending_ordered [] up = refl
ascending_ordered (t ∷ ts) up = ap (placed t) (ascending_ordered ts up.1) ∙ placed_lowest t ts up

pub ascending_again : (ts : List TermValue) → ascending (ascending ts) ≡ ascending ts
ascending_again ts = ascending_ordered (ascending ts) (Adjacent-sorted_by (λ x. x) ts)

-- a term behind some terms, put in order with them, or with them when they are in order
pub ascending_behind : (ts : List TermValue) (t : TermValue) → ascending (ts ++ t ∷ []) ≡ ascending (ascending ts ++ t ∷ [])
ascending_behind ts t = ascending-push ts t ∙ sym (ascending-push (ascending ts) t ∙ ap (placed t) (ascending_again ts))
