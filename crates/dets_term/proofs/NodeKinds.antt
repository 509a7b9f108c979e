-- Which node a value comes from.
use Rattle.std.proofs.Common.{zero, suc, false, ◌<◌, ◌-◌, arith, slice_get, None, ◌≡◌, ℕ, ℤ, cond, ◌==◌, length, List, [], ◌∷◌, refl, ap, ◌∙◌, sym}
use Rattle.std.specs.Ordering.{nat_cmp}
use Rattle.std.specs.Prelude.{Box}
use Rattle.std.specs.declared.alloc.Global.{Global}
use Rattle.dets_term.specs.declared.term.Node.{Node}
use Rattle.dets_term.specs.declared.term.Node.TheVariants.{Int, Atom, Tuple, Map, List as ListNode, Improper, Bits}
use Rattle.term_model.specs.TermValue.{TermValue, tuple, nil, chain, is_list, key}
use Rattle.dets_term.specs.Parts.{elements-chain}
use Rattle.dets_term.specs.Node.{shown, IsSound}
use Rattle.term_model.specs.Order.{order, rank}
use Rattle.dets_term.proofs.Fronts.{unlike}

-- the key of an object by its node
pub key_of_tuple : (ts : List TermValue) (keypos : ℕ) → 0 < keypos → slice_get ts (keypos - 1) ≡ key (tuple (chain ts nil)) keypos
key_of_tuple ts zero h = absurd (omega arith)
key_of_tuple ts (suc place) h = ap (slice_get ts) (let e : suc place - 1 ≡ place = omega arith in e) ∙ ap (λ us. slice_get us place) (sym (elements-chain ts))

pub key_of_list : (ts : List TermValue) (keypos : ℕ) → None ≡ key (chain ts nil) keypos
key_of_list [] keypos = refl
key_of_list (t ∷ ts) keypos = refl

pub key_of_other : (n : Node) (keypos : ℕ) → IsSound n → ((ts : List TermValue) → n ≡ Tuple ts → ⊥) → None ≡ key (shown n) keypos
key_of_other (Int v) keypos s other = refl
key_of_other (Atom name) keypos s other = refl
key_of_other (Tuple parts) keypos s other = absurd (other parts refl)
key_of_other (Map pairs) keypos s other = refl
key_of_other (ListNode parts) keypos s other = key_of_list parts keypos
key_of_other (Improper [] tail) keypos s other = absurd (omega (arith, s.0))
key_of_other (Improper (t ∷ ts) tail) keypos s other = refl
key_of_other (Bits bytes used) keypos s other = refl

-- a node that is neither a list nor an improper one shows no list
pub is_list_of_other : (n : Node) → ((ts : List TermValue) → n ≡ ListNode ts → ⊥)
    → ((ts : List TermValue) (tail : Box TermValue Global) → n ≡ Improper ts tail → ⊥) → is_list (shown n) ≡ false
is_list_of_other (Int v) list improper = refl
is_list_of_other (Atom name) list improper = refl
is_list_of_other (Tuple parts) list improper = refl
is_list_of_other (Map pairs) list improper = refl
is_list_of_other (ListNode parts) list improper = absurd (list parts refl)
is_list_of_other (Improper parts tail) list improper = absurd (improper parts tail refl)
is_list_of_other (Bits bytes used) list improper = refl

-- ---- nodes of two kinds

abbrev pub kind : Node → ℕ
kind (Int v) = 0
kind (Atom name) = 1
kind (Tuple parts) = 2
kind (Map pairs) = 3
kind (ListNode parts) = 4
kind (Improper parts tail) = 4
kind (Bits bytes used) = 6

-- the kind by the rank; the two ranks of lists are one kind
abbrev kind_of : ℕ → ℕ
kind_of r = cond (r == 5) 4 r

kind_of-rank : (n : Node) → IsSound n → kind_of (rank (shown n)) ≡ kind n
kind_of-rank (Int v) s = refl
kind_of-rank (Atom name) s = refl
kind_of-rank (Tuple parts) s = refl
kind_of-rank (Map pairs) s = refl
kind_of-rank (ListNode []) s = refl
kind_of-rank (ListNode (t ∷ ts)) s = refl
kind_of-rank (Improper [] tail) s = absurd (omega (arith, s.0))
kind_of-rank (Improper (t ∷ ts) tail) s = refl
kind_of-rank (Bits bytes used) s = refl

-- two values go by rank where their nodes are of two kinds
pub order-kinds : {a b : TermValue} (m n : Node) → shown m ≡ a → shown n ≡ b → IsSound m → IsSound n → (kind m ≡ kind n → ⊥)
    → nat_cmp (rank a) (rank b) ≡ order a b
order-kinds {a} {b} m n va vb sm sn d =
    sym (unlike a b (λ e. d (sym (kind_of-rank m sm) ∙ ap kind_of (ap rank va ∙ e ∙ sym (ap rank vb)) ∙ kind_of-rank n sn)))

pub not_int : {m : Node} {v : ℤ} (n : Node) → m ≡ Int v → ((w : ℤ) → n ≡ Int w → ⊥) → kind m ≡ kind n → ⊥
not_int (Int w) e h k = h w refl
not_int other e h k = absurd (let f : 0 ≡ kind other = sym (ap kind e) ∙ k in omega arith)

pub not_atom : {m : Node} {name : List ℕ} (n : Node) → m ≡ Atom name → ((other : List ℕ) → n ≡ Atom other → ⊥) → kind m ≡ kind n → ⊥
not_atom (Atom name) e h k = h name refl
not_atom other e h k = absurd (let f : 1 ≡ kind other = sym (ap kind e) ∙ k in omega arith)

pub not_tuple : {m : Node} {parts : List TermValue} (n : Node) → m ≡ Tuple parts → ((others : List TermValue) → n ≡ Tuple others → ⊥) → kind m ≡ kind n → ⊥
not_tuple (Tuple parts) e h k = h parts refl
not_tuple other e h k = absurd (let f : 2 ≡ kind other = sym (ap kind e) ∙ k in omega arith)

pub not_map : {m : Node} {pairs : List (TermValue × TermValue)} (n : Node) → m ≡ Map pairs
    → ((others : List (TermValue × TermValue)) → n ≡ Map others → ⊥) → kind m ≡ kind n → ⊥
not_map (Map pairs) e h k = h pairs refl
not_map other e h k = absurd (let f : 3 ≡ kind other = sym (ap kind e) ∙ k in omega arith)

pub not_list : (m n : Node) → kind m ≡ 4 → ((parts : List TermValue) → n ≡ ListNode parts → ⊥)
    → ((parts : List TermValue) (tail : Box TermValue Global) → n ≡ Improper parts tail → ⊥) → kind m ≡ kind n → ⊥
not_list m (ListNode parts) e h i k = h parts refl
not_list m (Improper parts tail) e h i k = i parts tail refl
not_list m other e h i k = absurd (let f : 4 ≡ kind other = sym e ∙ k in omega arith)

pub not_bits : {m : Node} {bytes : List ℕ} {used : ℕ} (n : Node) → m ≡ Bits bytes used
    → ((others : List ℕ) (other_used : ℕ) → n ≡ Bits others other_used → ⊥) → kind m ≡ kind n → ⊥
not_bits (Bits bytes used) e h k = h bytes used refl
not_bits other e h k = absurd (let f : 6 ≡ kind other = sym (ap kind e) ∙ k in omega arith)

pub rank-chain : (ts : List TermValue) (tail : TermValue) → 0 < length ts → rank (chain ts tail) ≡ 5
rank-chain [] tail h = absurd (omega arith)
rank-chain (t ∷ ts) tail h = refl

pub rank-no_elements : (ts : List TermValue) → length ts ≡ 0 → rank (chain ts nil) ≡ 4
rank-no_elements [] e = refl
rank-no_elements (t ∷ ts) e = absurd (omega arith)
