-- The entries of an ordered map as pairs by ascending key.
use Rattle.std.proofs.Common.{◌≡◌, Bool, true, false, ◌||◌, cond, List, [], ◌∷◌, Some, is_some, refl, ap}
use Rattle.std.specs.List.{list_any, AllByRecursion}
use Rattle.std.specs.List.Sorted.{IsStrictlySortedBy}
use Rattle.std.specs.Map.{lookup}
use Rattle.std.specs.BTreeMap.{is_at, insert_entry}
use Rattle.std.specs.declared.cmp.Ordering.{Ordering}
use Rattle.std.specs.declared.cmp.Ordering.TheVariants.{Less, Equal, Greater}
use Rattle.std.specs.Ordering.{is_eq, is_lt, match_ordering}
use Rattle.term_model.specs.TermValue.{TermValue}
use Rattle.term_model.specs.IsTerm.{Precedes, AreAscending}
use Rattle.term_model.specs.Order.{order, is_same}
use Rattle.term_model.specs.Pairs.{keys, placed}

-- a key is there where its value is found
pub lookup-keys : (k : TermValue) (es : List (TermValue × TermValue)) → is_some (lookup (is_at (order k)) es) ≡ list_any (is_same k) (keys es)
lookup-keys k [] = refl
lookup-keys k (e ∷ es) = by (is_same k e.0) (lookup-keys k es)
  where
    by : (b : Bool) → is_some (lookup (is_at (order k)) es) ≡ list_any (is_same k) (keys es)
        → is_some (cond b (Some e.1) (lookup (is_at (order k)) es)) ≡ b || list_any (is_same k) (keys es)
    by true rest = refl
    by false rest = rest

-- a new key's entry goes to its place
pub insert_entry-placed : (k v : TermValue) (es : List (TermValue × TermValue)) → list_any (is_same k) (keys es) ≡ false
    → insert_entry order es k v ≡ placed (k, v) es
insert_entry-placed k v [] h = refl
insert_entry-placed k v (e ∷ es) h = by (order k e.0) h (insert_entry-placed k v es)
  where
    by : (o : Ordering) → (is_eq o || list_any (is_same k) (keys es)) ≡ false
        → (list_any (is_same k) (keys es) ≡ false → insert_entry order es k v ≡ placed (k, v) es)
        → match_ordering o ((k, v) ∷ e ∷ es) ((e.0, v) ∷ es) (e ∷ insert_entry order es k v) ≡ cond (is_lt o) ((k, v) ∷ e ∷ es) (e ∷ placed (k, v) es)
    by Less h rest = refl
    by Equal h rest = cc
    by Greater h rest = ap (λ fs. e ∷ fs) (rest h)

first_below : (k : TermValue) (ks : List TermValue) → AllByRecursion (λ y. order k y ≡ Less) ks → Precedes k ks
first_below k [] h = tt
first_below k (l ∷ ks) h = h.0

pub sorted-ascending : (ks : List TermValue) → IsStrictlySortedBy order ks → AreAscending ks
unfolding IsStrictlySortedBy
sorted-ascending [] h = tt
sorted-ascending (k ∷ ks) h = (first_below k ks h.0, sorted-ascending ks h.1)
