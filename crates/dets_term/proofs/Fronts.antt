-- The order of lists as the code finds it: by their fronts, then by what follows these.
use Rattle.std.proofs.Common.{◌≡◌, ℕ, ◌+◌, ◌<◌, ◌≤◌, ◌⊎◌, min, true, false, List, [], ◌∷◌, map, length, get_or, drop, refl, ap, ◌∙◌, sym, arith, inl, inr}
use Rattle.std.specs.declared.cmp.Ordering.{Ordering}
use Rattle.std.specs.declared.cmp.Ordering.TheVariants.{Less, Equal, Greater}
use Rattle.std.specs.Ordering.{nat_cmp, ordering_then, match_ordering, is_ne, is_eq}
use Rattle.std.proofs.lemmas.List.{drop_more, length-map}
use Rattle.std.proofs.Math.ListN.{drop_of_length-le}
use Rattle.std.proofs.lemmas.Bool.{cases_lt, cases_order}
use Rattle.term_model.specs.TermValue.{TermValue, integer, atom, tuple, mapping, nil, cons, bits, chain, map_of, is_list}
use Rattle.term_model.specs.Order.{order, rank, by_count}
use Rattle.term_model.specs.Orderings.{decided, undecided, then_assoc, then_equal, nat_cmp_self, nat_cmp-zero-suc, nat_cmp-suc-zero, nat_cmp-suc, nat_cmp-apart}
use Rattle.dets_term.specs.Fronts.{front_order, ends_order, values}
use Rattle.term_model.specs.Pairs.{keys}
use Rattle.dets_term.specs.Parts.{elements-chain}

-- ---- values of two kinds

pub unlike : (a b : TermValue) → (rank a ≡ rank b → ⊥) → order a b ≡ nat_cmp (rank a) (rank b)
unlike (integer y) (integer z) n = absurd (n refl)
unlike (atom a) (atom b) n = absurd (n refl)
unlike (tuple t) (tuple u) n = absurd (n refl)
unlike (mapping ks vs) (mapping ls ws) n = absurd (n refl)
unlike (cons t ts) (cons u us) n = absurd (n refl)
unlike (bits a) (bits b) n = absurd (n refl)
unlike a b n = refl

pub rank-end : (t : TermValue) → is_list t ≡ false → (rank t ≡ 4 → ⊥) × (rank t ≡ 5 → ⊥)
rank-end nil e = cc
rank-end (cons first rest) e = cc
rank-end other e = (λ h. omega arith, λ h. omega arith)

-- ---- lists as chains

-- two lists that end in what is no list of elements
pub order-chains : (ts us : List TermValue) (x y : TermValue) → (rank x ≡ 5 → ⊥) → (rank y ≡ 5 → ⊥)
    → order (chain ts x) (chain us y)
    ≡ ordering_then (front_order ts us) (match_ordering (nat_cmp (length ts) (length us)) (nat_cmp (rank x) 5) (order x y) (nat_cmp 5 (rank y)))
order-chains [] [] x y m n = refl
order-chains [] (u ∷ us) x y m n =
    unlike x (cons u (chain us y)) m ∙ ap (λ o. match_ordering o (nat_cmp (rank x) 5) (order x y) (nat_cmp 5 (rank y))) (sym (nat_cmp-zero-suc (length us)))
order-chains (t ∷ ts) [] x y m n =
    unlike (cons t (chain ts x)) y (λ e. n (sym e)) ∙ ap (λ o. match_ordering o (nat_cmp (rank x) 5) (order x y) (nat_cmp 5 (rank y)))
    (sym (nat_cmp-suc-zero (length ts)))
order-chains (t ∷ ts) (u ∷ us) x y m n =
    let ends : Ordering → Ordering = λ o. match_ordering o (nat_cmp (rank x) 5) (order x y) (nat_cmp 5 (rank y)) in
    ap (ordering_then (order t u)) (order-chains ts us x y m n)
    ∙ sym (then_assoc (order t u) (front_order ts us) (ends (nat_cmp (length ts) (length us))))
    ∙ ap (λ o. ordering_then (ordering_then (order t u) (front_order ts us)) (ends o)) (sym (nat_cmp-suc (length ts) (length us)))

four_five : ◌≡◌ {A = ℕ} 4 5 → ⊥
four_five e = omega arith

-- two proper lists
pub order-proper : (ts us : List TermValue) → order (chain ts nil) (chain us nil) ≡ ordering_then (front_order ts us) (ends_order (length ts) 4 (length us) 4)
order-proper ts us = order-chains ts us nil nil four_five four_five

order-as_long : (ts us : List TermValue) → length ts ≡ length us → order (chain ts nil) (chain us nil) ≡ front_order ts us
order-as_long ts us e =
    order-proper ts us
    ∙ ap (λ o. ordering_then (front_order ts us) (match_ordering o Less Equal Greater)) (ap (λ n. nat_cmp (length ts) n) (sym e) ∙ nat_cmp_self (length ts))
    ∙ then_equal (front_order ts us)

-- a proper list and one with an end
pub order-proper-improper : (ts us : List TermValue) (y : TermValue) → is_list y ≡ false
    → order (chain ts nil) (chain us y) ≡ ordering_then (front_order ts us) (ends_order (length ts) 4 (length us) (rank y))
order-proper-improper ts us y e =
    let ends = rank-end y e in
    order-chains ts us nil y four_five ends.1
    ∙ ap (λ o. ordering_then (front_order ts us) (match_ordering (nat_cmp (length ts) (length us)) Less o (nat_cmp 5 (rank y))))
    (unlike nil y (λ r. ends.0 (sym r)))

pub order-improper-proper : (ts us : List TermValue) (x : TermValue) → is_list x ≡ false
    → order (chain ts x) (chain us nil) ≡ ordering_then (front_order ts us) (ends_order (length ts) (rank x) (length us) 4)
order-improper-proper ts us x e =
    let ends = rank-end x e in
    order-chains ts us x nil ends.1 four_five
    ∙ ap (λ o. ordering_then (front_order ts us) (match_ordering (nat_cmp (length ts) (length us)) (nat_cmp (rank x) 5) o Greater))
    (unlike x nil (λ r. ends.0 r))

-- two with ends that alone decide
equal_from_is_eq : (o : Ordering) → is_eq o ≡ true → o ≡ Equal
equal_from_is_eq Less e = cc
equal_from_is_eq Equal e = refl
equal_from_is_eq Greater e = cc

pub order-improper_ends : (ts us : List TermValue) (x y : TermValue) → is_list x ≡ false → is_list y ≡ false → length ts ≡ length us
    → is_eq (front_order ts us) ≡ true → order (chain ts x) (chain us y) ≡ order x y
order-improper_ends ts us x y d e same h =
    order-chains ts us x y (rank-end x d).1 (rank-end y e).1
    ∙ (λ i. ordering_then (equal_from_is_eq (front_order ts us) h i)
    (match_ordering ((ap (λ n. nat_cmp (length ts) n) (sym same) ∙ nat_cmp_self (length ts)) i) (nat_cmp (rank x) 5) (order x y) (nat_cmp 5 (rank y))))

passed_over : (o p q r s : Ordering) → is_ne o ≡ true → match_ordering o p q s ≡ match_ordering o p r s
passed_over Less p q r s e = refl
passed_over Equal p q r s e = cc
passed_over Greater p q r s e = refl

decided_first : (o p q : Ordering) → is_eq o ≡ false → ordering_then o p ≡ ordering_then o q
decided_first Less p q e = refl
decided_first Equal p q e = cc
decided_first Greater p q e = refl

pub order-improper_longer : (ts us : List TermValue) (x y : TermValue) → is_list x ≡ false → is_list y ≡ false → (length ts ≡ length us → ⊥)
    → order (chain ts x) (chain us y) ≡ ordering_then (front_order ts us) (ends_order (length ts) (rank x) (length us) (rank y))
order-improper_longer ts us x y d e differ =
    order-chains ts us x y (rank-end x d).1 (rank-end y e).1
    ∙ ap (ordering_then (front_order ts us)) (passed_over (nat_cmp (length ts) (length us)) _ (order x y) (nat_cmp (rank x) (rank y)) _
    (nat_cmp-apart (length ts) (length us) differ))

pub order-improper_fronts : (ts us : List TermValue) (x y : TermValue) → is_list x ≡ false → is_list y ≡ false → is_eq (front_order ts us) ≡ false
    → order (chain ts x) (chain us y) ≡ ordering_then (front_order ts us) (ends_order (length ts) (rank x) (length us) (rank y))
order-improper_fronts ts us x y d e h =
    order-chains ts us x y (rank-end x d).1 (rank-end y e).1 ∙ decided_first (front_order ts us) _ _ h

-- ---- tuples and maps

counts : (ts us : List TermValue) → by_count (chain ts nil) (chain us nil) ≡ nat_cmp (length ts) (length us)
counts ts us i = nat_cmp (length (elements-chain ts i)) (length (elements-chain us i))

pub order-tuples_differ : (ts us : List TermValue) → (length ts ≡ length us → ⊥)
    → order (tuple (chain ts nil)) (tuple (chain us nil)) ≡ nat_cmp (length ts) (length us)
order-tuples_differ ts us d =
    ap (λ o. ordering_then o (order (chain ts nil) (chain us nil))) (counts ts us) ∙ decided _ _ (nat_cmp-apart (length ts) (length us) d)

as_many : (ts us : List TermValue) → length ts ≡ length us → by_count (chain ts nil) (chain us nil) ≡ Equal
as_many ts us e = counts ts us ∙ ap (λ n. nat_cmp (length ts) n) (sym e) ∙ nat_cmp_self (length ts)

pub order-tuples : (ts us : List TermValue) → length ts ≡ length us → order (tuple (chain ts nil)) (tuple (chain us nil)) ≡ front_order ts us
order-tuples ts us e = ap (λ o. ordering_then o (order (chain ts nil) (chain us nil))) (as_many ts us e) ∙ order-as_long ts us e

keys_count : (ps : List (TermValue × TermValue)) → length (keys ps) ≡ length ps
keys_count ps = length-map ps (λ p. p.0)

values_count : (ps : List (TermValue × TermValue)) → length (values ps) ≡ length ps
values_count ps = length-map ps (λ p. p.1)

order-maps_differ : (ps qs : List (TermValue × TermValue)) → (length ps ≡ length qs → ⊥) → order (map_of ps) (map_of qs) ≡ nat_cmp (length ps) (length qs)
order-maps_differ ps qs d =
    ap (λ o. ordering_then o (ordering_then (order (chain (keys ps) nil) (chain (keys qs) nil)) (order (chain (values ps) nil) (chain (values qs) nil))))
    (counts (keys ps) (keys qs) ∙ (λ i. nat_cmp (keys_count ps i) (keys_count qs i)))
    ∙ decided _ _ (nat_cmp-apart (length ps) (length qs) d)

order-maps : (ps qs : List (TermValue × TermValue)) → length ps ≡ length qs
    → order (map_of ps) (map_of qs) ≡ ordering_then (front_order (keys ps) (keys qs)) (front_order (values ps) (values qs))
order-maps ps qs e =
    let as_many_keys = keys_count ps ∙ e ∙ sym (keys_count qs) in
    let as_many_values = values_count ps ∙ e ∙ sym (values_count qs) in
    ap (λ o. ordering_then o (ordering_then (order (chain (keys ps) nil) (chain (keys qs) nil))
    (order (chain (values ps) nil) (chain (values qs) nil)))) (as_many (keys ps) (keys qs) as_many_keys)
    ∙ (λ i. ordering_then (order-as_long (keys ps) (keys qs) as_many_keys i) (order-as_long (values ps) (values qs) as_many_values i))

apart : (m n : ℕ) → (m < n) ⊎ (n < m) → m ≡ n → ⊥
apart m n h e = elim h [
  | inl k ↦ omega arith
  | inr k ↦ omega arith
]

-- by size, then by keys, then by values
pub order-maps_by_fronts : (ps qs : List (TermValue × TermValue))
    → order (map_of ps) (map_of qs) ≡ ordering_then (ordering_then (nat_cmp (length ps) (length qs)) (front_order (keys ps) (keys qs)))
    (front_order (values ps) (values qs))
order-maps_by_fronts ps qs =
    elim (cases_order (length ps) (length qs)) [
      | inl e ↦
          order-maps ps qs e
          ∙ ap (λ o. ordering_then (ordering_then o (front_order (keys ps) (keys qs))) (front_order (values ps) (values qs)))
          (sym (ap (λ n. nat_cmp (length ps) n) (sym e) ∙ nat_cmp_self (length ps)))
      | inr d ↦
          let by_size = nat_cmp-apart (length ps) (length qs) (apart (length ps) (length qs) d) in
          order-maps_differ ps qs (apart (length ps) (length qs) d)
          ∙ sym (decided (nat_cmp (length ps) (length qs)) (ordering_then (front_order (keys ps) (keys qs)) (front_order (values ps) (values qs))) by_size)
          ∙ sym (then_assoc (nat_cmp (length ps) (length qs)) (front_order (keys ps) (keys qs)) (front_order (values ps) (values qs)))
    ]

-- the sizes alone decide where they differ, and not where they are equal
pub by_size_alone : (m n : ℕ) (o p : Ordering) → o ≡ nat_cmp m n → (m ≡ n → ⊥) → o ≡ ordering_then (nat_cmp m n) p
by_size_alone m n o p e d = e ∙ sym (decided (nat_cmp m n) p (nat_cmp-apart m n d))

pub past_size : (m n : ℕ) (o : Ordering) → m ≡ n → o ≡ ordering_then (nat_cmp m n) o
past_size m n o e = ap (λ p. ordering_then p o) (sym (ap (λ k. nat_cmp m k) (sym e) ∙ nat_cmp_self m))

-- ---- one place after another

front_more : (ts us : List TermValue) (i : ℕ) (t u : TermValue) (o : Ordering) → i < length ts → i < length us → t ≡ get_or ts i t
    → u ≡ get_or us i u → o ≡ order t u
    → front_order (drop i ts) (drop i us) ≡ ordering_then o (front_order (drop (i + 1) ts) (drop (i + 1) us))
front_more ts us i t u o h k d e is =
    (λ j. front_order (drop_more ts i t h j) (drop_more us i u k j))
    ∙ (λ j. ordering_then (order (sym d j) (sym e j)) (front_order (drop (i + 1) ts) (drop (i + 1) us)))
    ∙ ap (λ p. ordering_then p (front_order (drop (i + 1) ts) (drop (i + 1) us))) (sym is)

pub front_decided : (ts us : List TermValue) (i : ℕ) (t u : TermValue) (o : Ordering) → i < length ts → i < length us → t ≡ get_or ts i t
    → u ≡ get_or us i u → o ≡ order t u
    → is_ne o ≡ true → front_order (drop i ts) (drop i us) ≡ o
front_decided ts us i t u o h k d e is n = front_more ts us i t u o h k d e is ∙ decided o _ n

pub front_goes_on : (ts us : List TermValue) (i : ℕ) (t u : TermValue) (o : Ordering) → i < length ts → i < length us → t ≡ get_or ts i t
    → u ≡ get_or us i u → o ≡ order t u
    → is_ne o ≡ false → front_order (drop i ts) (drop i us) ≡ front_order (drop (i + 1) ts) (drop (i + 1) us)
front_goes_on ts us i t u o h k d e is n = front_more ts us i t u o h k d e is ∙ undecided o _ n

mapped_more : {A : Type 0} (f : A → TermValue) (ps qs : List A) (i : ℕ) (p q : A) (o : Ordering) → i < length ps → i < length qs → p ≡ get_or ps i p
    → q ≡ get_or qs i q → o ≡ order (f p) (f q)
    → front_order (map f (drop i ps)) (map f (drop i qs)) ≡ ordering_then o (front_order (map f (drop (i + 1) ps)) (map f (drop (i + 1) qs)))
mapped_more f ps qs i p q o h k d e is =
    (λ j. front_order (map f (drop_more ps i p h j)) (map f (drop_more qs i q k j)))
    ∙ (λ j. ordering_then (order (f (sym d j)) (f (sym e j))) (front_order (map f (drop (i + 1) ps)) (map f (drop (i + 1) qs))))
    ∙ ap (λ r. ordering_then r (front_order (map f (drop (i + 1) ps)) (map f (drop (i + 1) qs)))) (sym is)

pub mapped_decided : {A : Type 0} (f : A → TermValue) (ps qs : List A) (i : ℕ) (p q : A) (o : Ordering) → i < length ps → i < length qs
    → p ≡ get_or ps i p → q ≡ get_or qs i q → o ≡ order (f p) (f q)
    → is_ne o ≡ true → front_order (map f (drop i ps)) (map f (drop i qs)) ≡ o
mapped_decided f ps qs i p q o h k d e is n = mapped_more f ps qs i p q o h k d e is ∙ decided o _ n

pub mapped_goes_on : {A : Type 0} (f : A → TermValue) (ps qs : List A) (i : ℕ) (p q : A) (o : Ordering) → i < length ps → i < length qs
    → p ≡ get_or ps i p → q ≡ get_or qs i q → o ≡ order (f p) (f q)
    → is_ne o ≡ false → front_order (map f (drop i ps)) (map f (drop i qs)) ≡ front_order (map f (drop (i + 1) ps)) (map f (drop (i + 1) qs))
mapped_goes_on f ps qs i p q o h k d e is n = mapped_more f ps qs i p q o h k d e is ∙ undecided o _ n

front-none : (ts : List TermValue) → front_order ts [] ≡ Equal
front-none [] = refl
front-none (t ∷ ts) = refl

pub mapped_all : {A : Type 0} (f : A → TermValue) (ps qs : List A) (i : ℕ) → min (length ps) (length qs) ≤ i
    → front_order (map f (drop i ps)) (map f (drop i qs)) ≡ Equal
mapped_all f ps qs i h =
    elim (cases_lt i (length ps)) [
      | inr k ↦ ap (λ xs. front_order (map f xs) (map f (drop i qs))) (drop_of_length-le ps k)
      | inl k ↦ ap (λ xs. front_order (map f (drop i ps)) (map f xs)) (drop_of_length-le qs (omega arith)) ∙ front-none (map f (drop i ps))
    ]

pub front_all : (ts us : List TermValue) (i : ℕ) → min (length ts) (length us) ≤ i → front_order (drop i ts) (drop i us) ≡ Equal
front_all ts us i h =
    elim (cases_lt i (length ts)) [
      | inr k ↦ ap (λ xs. front_order xs (drop i us)) (drop_of_length-le ts k)
      | inl k ↦ ap (λ xs. front_order (drop i ts) xs) (drop_of_length-le us (omega arith)) ∙ front-none (drop i ts)
    ]
