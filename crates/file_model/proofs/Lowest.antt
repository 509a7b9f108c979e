-- Where no two blocks at open units meet, a key has the objects of its lowest one.
use Rattle.std.proofs.Common.{◌≡◌, ◌≤◌, ◌<◌, ℕ, zero, suc, ◌+◌, ◌^◌, Bool, true, false, cond, ◌&&◌, nat_le, nat_lt, ⊎_elim, List, [], ◌∷◌, ◌++◌}
use Rattle.std.proofs.Common.{filter, find, Option, Some, None, Ok, Err, refl, ap, ◌∙◌, subst, arith, append-nil}
use Rattle.std.specs.List.{list_all, list_any}
use Rattle.std.proofs.lemmas.Bool.{cases_Bool, and_right, le-ltb, or_left}
use Rattle.std.proofs.lemmas.List.Elements.{filter-append}
use Rattle.term_model.specs.TermValue.{TermValue}
use Rattle.term_model.specs.Order.{is_same}
use Rattle.term_model.specs.Same.{equal_from_same}
use Rattle.term_model.specs.Sorted.{ascending}
use Rattle.table_model.specs.Table.{has_key, objects_of}
use Rattle.file_model.specs.declared.head.Head.{Head}
use Rattle.file_model.specs.Block.{Block, Standing}
use Rattle.file_model.specs.View.{Units, open_from}
use Rattle.file_model.specs.Taken.{covers, block_has, by_key, taken_next, taken_above, objects_in}
use Rattle.file_model.specs.Gates.{Gates, AreRead, StandsOpen, NoneMeet, standing_has, standing_objects, lowest_objects, table_with}
use Rattle.file_model.proofs.OneKey.{has_one_key, in_order_stays, filter_all, filter_other}

-- ---- lists and tests

found_any : {X : Type 0} (p : X → Bool) (xs : List X) (t : X) → find p xs ≡ Some t → list_any p xs ≡ true
found_any p [] t e = cc
found_any p (x ∷ xs) t e = ⊎_elim
    (λ yes. or_left _ _ yes)
    (λ no. rw no (found_any p xs t (rw no at e)))
    (cases_Bool (p x))

none_any : {X : Type 0} (p : X → Bool) (xs : List X) → find p xs ≡ None → list_any p xs ≡ false
none_any p [] e = refl
none_any p (x ∷ xs) e = ⊎_elim
    (λ yes. absurd (cc (rw yes at e)))
    (λ no. rw no (none_any p xs (rw no at e)))
    (cases_Bool (p x))

none_either : (b : Bool) (none : List TermValue) → none ≡ cond b none none
none_either true none = refl
none_either false none = refl

-- ---- one block

step_taken : (keypos : ℕ) (k : TermValue) (below : List Block) (b : Block) (o : Option Block) (same : Bool) (rest : List Block → List Block)
    (first : List TermValue) → find (block_has b.key) below ≡ o → is_same b.key k ≡ same → list_all (has_key keypos b.key) b.objects ≡ true
    → filter (has_key keypos k) (objects_in (rest below)) ≡ cond (list_any (block_has k) below) [] first
    → filter (has_key keypos k) (objects_in (rest (b ∷ below))) ≡ cond (list_any (block_has k) (b ∷ below)) [] first
    → filter (has_key keypos k) (objects_in (taken_next rest below (by_key b o)))
    ≡ cond (list_any (block_has k) below) [] (cond (same && true) b.objects first)
step_taken keypos k below b (Some t) true rest first found same all here more =
    let any : list_any (block_has k) below ≡ true =
    found_any (block_has k) below t (subst (λ j. find (block_has j) below ≡ Some t) (equal_from_same b.key k same) found) in
    here ∙ rw any refl
step_taken keypos k below b (Some t) false rest first found same all here more = here
step_taken keypos k below b None true rest first found same all here more =
    let is = equal_from_same b.key k same in
    let none : list_any (block_has k) below ≡ false = none_any (block_has k) below (subst (λ j. find (block_has j) below ≡ None) is found) in
    let own : filter (has_key keypos k) b.objects ≡ b.objects =
    filter_all (has_key keypos k) b.objects (subst (λ j. list_all (has_key keypos j) b.objects ≡ true) is all) in
    let rest_none : filter (has_key keypos k) (objects_in (rest (b ∷ below))) ≡ [] = more ∙ rw same refl in
    filter-append (has_key keypos k) b.objects (objects_in (rest (b ∷ below))) ∙ rw (own, rest_none, none) (append-nil b.objects)
step_taken keypos k below b None false rest first found same all here more =
    filter-append (has_key keypos k) b.objects (objects_in (rest (b ∷ below)))
    ∙ ap (λ xs. xs ++ filter (has_key keypos k) (objects_in (rest (b ∷ below)))) (filter_other keypos b.key k b.objects all same)
    ∙ more ∙ rw same refl

-- ---- all open units

-- none of these blocks covers the unit of a block at an open unit from this one on
abbrev Free : Gates → Units → List Block → ℕ → Type 0
Free gates units below u = (w : ℕ) (c : Block) → u ≤ w → StandsOpen gates units w c → find (covers w) below ≡ None

free_more : (h : Head) (gates : Gates) (units : Units) (u : ℕ) (b : Block) (below : List Block) → AreRead h units → NoneMeet gates units
    → StandsOpen gates units u b → Free gates units below u → Free gates units (b ∷ below) (suc u)
free_more h gates units u b below read apart here free w c a there =
    let l : u + 2 ^ b.exp ≤ w = apart u w b c here there (omega arith) in
    let own = (read u b here.stands).unit in
    let past : b.unit + 2 ^ b.exp ≤ w = omega (arith, own, l) in
    let no_cover : covers w b ≡ false = and_right (nat_le b.unit w) (nat_lt w (b.unit + 2 ^ b.exp)) (le-ltb w (b.unit + 2 ^ b.exp) past) in
    rw no_cover (free w c (omega arith) there)

-- what one unit comes to, by its gate and by what stands there
at_unit : (h : Head) (gates : Gates) (units : Units) (k : TermValue) (n u : ℕ) (below : List Block) (o : Bool) (s : Standing)
    → AreRead h units → NoneMeet gates units → u < units.count → Free gates units below u → gates u ≡ o → units.stands u ≡ s
    → ((bs : List Block) → Free gates units bs (suc u)
    → filter (has_key h.keypos k) (objects_in (taken_above (open_from gates units.stands n (suc u)) bs))
    ≡ cond (list_any (block_has k) bs) [] (lowest_objects gates units.stands k n (suc u)))
    → filter (has_key h.keypos k) (objects_in (taken_above (open_from gates units.stands (suc n) u) below))
    ≡ cond (list_any (block_has k) below) [] (lowest_objects gates units.stands k (suc n) u)
at_unit h gates units k n u below false s read apart inside free shut is go =
    let none : (standing_has k (units.stands u) && gates u) ≡ false = and_right (standing_has k (units.stands u)) (gates u) shut in
    rw (none, shut) (go below (λ w c a there. free w c (omega arith) there))
at_unit h gates units k n u below true (Err reason) read apart inside free opened is go =
    rw (opened, is) (go below (λ w c a there. free w c (omega arith) there))
at_unit h gates units k n u below true (Ok b) read apart inside free opened is go =
    let here : StandsOpen gates units u b = record { inside = inside; opened = opened; stands = is } in
    let own = read u b is in
    let uncovered : find (covers b.unit) below ≡ None = rw own.unit (free u b (omega arith) here) in
    rw (opened, is, uncovered)
    (step_taken h.keypos k below b (find (block_has b.key) below) (is_same b.key k) (taken_above (open_from gates units.stands n (suc u)))
    (lowest_objects gates units.stands k n (suc u)) refl refl (has_one_key h.kind h.keypos b.objects b.key own.key).each
    (go below (λ w c a there. free w c (omega arith) there))
    (go (b ∷ below) (free_more h gates units u b below read apart here free)))

all_units : (h : Head) (gates : Gates) (units : Units) (k : TermValue) → AreRead h units → NoneMeet gates units → (n u : ℕ) → u + n ≤ units.count
    → (below : List Block) → Free gates units below u
    → filter (has_key h.keypos k) (objects_in (taken_above (open_from gates units.stands n u) below))
    ≡ cond (list_any (block_has k) below) [] (lowest_objects gates units.stands k n u)
all_units h gates units k read apart zero u fits below free = none_either (list_any (block_has k) below) []
all_units h gates units k read apart (suc n) u fits below free =
    at_unit h gates units k n u below (gates u) (units.stands u) read apart (omega arith) free refl refl
    (λ bs more. all_units h gates units k read apart n (suc u) (omega arith) bs more)

-- ---- they ascend

lowest_next : (h : Head) (gates : Gates) (units : Units) (k : TermValue) (n u : ℕ) (s : Standing) (has : Bool) → AreRead h units → units.stands u ≡ s
    → ascending (lowest_objects gates units.stands k n (suc u)) ≡ lowest_objects gates units.stands k n (suc u)
    → ascending (cond has (standing_objects s) (lowest_objects gates units.stands k n (suc u)))
    ≡ cond has (standing_objects s) (lowest_objects gates units.stands k n (suc u))
lowest_next h gates units k n u (Ok b) true read is go = in_order_stays h.kind b.objects (has_one_key h.kind h.keypos b.objects b.key (read u b is).key).ordered
lowest_next h gates units k n u (Err reason) true read is go = refl
lowest_next h gates units k n u s false read is go = go

lowest_ascends : (h : Head) (gates : Gates) (units : Units) (k : TermValue) → AreRead h units → (n u : ℕ)
    → ascending (lowest_objects gates units.stands k n u) ≡ lowest_objects gates units.stands k n u
lowest_ascends h gates units k read zero u = refl
lowest_ascends h gates units k read (suc n) u =
    lowest_next h gates units k n u (units.stands u) (standing_has k (units.stands u) && gates u) read refl (lowest_ascends h gates units k read n (suc u))

pub lowest : (h : Head) (units : Units) (gates : Gates) (k : TermValue) → AreRead h units → NoneMeet gates units
    → objects_of (table_with h units gates) k ≡ lowest_objects gates units.stands k units.count 0
lowest h units gates k read apart =
    ap ascending (all_units h gates units k read apart units.count 0 (omega arith) [] (λ w c a there. refl))
    ∙ lowest_ascends h gates units k read units.count 0
