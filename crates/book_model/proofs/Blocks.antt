-- The blocks behind open gates are the taken ones, where open gates stand at taken units alone.
use Rattle.std.proofs.Common.{◌≡◌, ◌≤◌, ◌<◌, ◌⊎◌, inl, inr, ⊎_elim, ℕ, zero, suc, ◌+◌, Bool, true, false, List, [], ◌∷◌, Some, None, Ok, Err, Option, refl, sym, ap, ◌∙◌, subst, arith}
use Rattle.std.specs.Prelude.{find}
use Rattle.std.specs.List.{AllByRecursion}
use Rattle.std.proofs.lemmas.Bool.{cases_Bool, cases_order, both_ways}
use Rattle.space_model.specs.Apart.{In, Pairs}
use Rattle.file_model.specs.declared.head.Head.{Head}
use Rattle.file_model.specs.declared.reject.Reject.{Reject}
use Rattle.file_model.specs.Block.{Block, Standing}
use Rattle.file_model.specs.View.{Units, OpenUnit, View, with_unit, view, open_from}
use Rattle.file_model.specs.Taken.{covers, block_has, by_key, by_cover, judged, taken_next, taken_above, taken, rejects_next, rejects_above, rejects}
use Rattle.file_model.specs.Fit.{are_none, has_no_rejects}
use Rattle.file_model.specs.Gates.{Gates, AreRead, StandsOpen}

pub of_all : {X : Type 0} (P : X → Type 0) (xs : List X) (x : X) → AllByRecursion P xs → In x xs → P x
of_all P [] x all a = absurd a
of_all P (y ∷ ys) x all a = ⊎_elim (λ here. subst P here all.0) (λ later. of_all P ys x all.1 later) a

pub all_of : {X : Type 0} (P : X → Type 0) (xs : List X) → ((x : X) → In x xs → P x) → AllByRecursion P xs
all_of P [] each = tt
all_of P (y ∷ ys) each = (each y (inl refl), all_of P ys (λ x a. each x (inr a)))

-- ---- open units

pub record IsOpenUnit (gates : Gates) (stands : ℕ → Standing) (from end : ℕ) (o : OpenUnit) : Type 0 where
  pub least : from ≤ o.unit
  pub most : o.unit < end
  pub opened : gates o.unit ≡ true
  pub is : o.stands ≡ stands o.unit

pub open_unit : (gates : Gates) (stands : ℕ → Standing) (n u : ℕ) (o : OpenUnit) → In o (open_from gates stands n u) → IsOpenUnit gates stands u (u + n) o
open_unit gates stands zero u o a = absurd a
open_unit gates stands (suc n) u o a = ⊎_elim
    (λ yes. ⊎_elim
    (λ here. subst (λ (x : OpenUnit). IsOpenUnit gates stands u (u + suc n) x) here
    (record { least = omega arith; most = omega arith; opened = yes; is = refl }))
    (λ later. let r = open_unit gates stands n (suc u) o later in let l = r.least in let m = r.most in
    record { least = omega arith; most = omega arith; opened = r.opened; is = r.is })
    (rw yes at a))
    (λ no. let r = open_unit gates stands n (suc u) o (rw no at a) in let l = r.least in let m = r.most in
    record { least = omega arith; most = omega arith; opened = r.opened; is = r.is })
    (cases_Bool (gates u))

pub unit_open : (gates : Gates) (stands : ℕ → Standing) (n u w : ℕ) → u ≤ w → w < u + n → gates w ≡ true
    → In (record { unit = w; stands = stands w }) (open_from gates stands n u)
unit_open gates stands zero u w l m is = absurd (omega arith)
unit_open gates stands (suc n) u w l m is = ⊎_elim
    (λ opened. rw opened (⊎_elim
    (λ same. inl (λ i. record { unit = same i; stands = stands (same i) }))
    (λ apart. inr (unit_open gates stands n (suc u) w (⊎_elim (λ x. omega arith) (λ x. absurd (omega arith)) apart) (omega arith) is))
    (cases_order u w)))
    (λ shut. rw shut (unit_open gates stands n (suc u) w (⊎_elim
    (λ same. absurd (both_ways (gates u) shut (ap gates same ∙ is)))
    (λ apart. ⊎_elim (λ x. omega arith) (λ x. absurd (omega arith)) apart)
    (cases_order u w)) (omega arith) is))
    (cases_Bool (gates u))

-- ---- what is judged

by_key_is : (b t : Block) (o : Option Block) → by_key b o ≡ Ok t → b ≡ t
by_key_is b t None e = cc e
by_key_is b t (Some other) e = absurd (cc e)

by_cover_is : (below : List Block) (b t : Block) (o : Option Block) → by_cover below b o ≡ Ok t → b ≡ t
by_cover_is below b t None e = by_key_is b t (find (block_has b.key) below) e
by_cover_is below b t (Some other) e = absurd (cc e)

abbrev ok_of : Block → Standing
ok_of t = Ok t

judged_is : (below : List Block) (s : Standing) (t : Block) → judged below s ≡ Ok t → s ≡ Ok t
judged_is below (Err reason) t e = absurd (cc e)
judged_is below (Ok b) t e = ap (λ (x : Block). Ok x) (by_cover_is below b t (find (covers b.unit) below) e)

-- ---- without rejects each open unit has a taken block

pub record HasTaken (blocks : List Block) (o : OpenUnit) : Type 0 where
  pub block : Block
  pub is : o.stands ≡ Ok block
  pub there : In block blocks

taken_step : (os : List OpenUnit) (below : List Block) (o : OpenUnit) (first : OpenUnit) (j : Standing) → judged below first.stands ≡ j
    → rejects_next (rejects_above os) first.unit below j ≡ [] → (first ≡ o) ⊎ In o os
    → ((next : List Block) → rejects_above os next ≡ [] → In o os → HasTaken (taken_above os next) o)
    → HasTaken (taken_next (taken_above os) below j) o
taken_step os below o first (Err reason) judge none a go = absurd (cc none)
taken_step os below o first (Ok t) judge none a go = ⊎_elim
    (λ here. record { block = t; is = ap (λ (x : OpenUnit). x.stands) (sym here) ∙ judged_is below first.stands t judge; there = inl refl })
    (λ later. let r = go (t ∷ below) none later in record { block = r.block; is = r.is; there = inr r.there })
    a

taken_at : (os : List OpenUnit) (below : List Block) (o : OpenUnit) → rejects_above os below ≡ [] → In o os → HasTaken (taken_above os below) o
taken_at [] below o none a = absurd a
taken_at (p ∷ ps) below o none a = taken_step ps below o p (judged below p.stands) refl none a (λ next n x. taken_at ps next o n x)

pub record HasUnit (os : List OpenUnit) (t : Block) : Type 0 where
  pub open_unit : OpenUnit
  pub there : In open_unit os
  pub is : open_unit.stands ≡ Ok t

unit_step : (os : List OpenUnit) (below : List Block) (t : Block) (first : OpenUnit) (j : Standing) → judged below first.stands ≡ j
    → In t (taken_next (taken_above os) below j) → ((next : List Block) → In t (taken_above os next) → HasUnit os t) → HasUnit (first ∷ os) t
unit_step os below t first (Err reason) judge a go = let r = go below a in record { open_unit = r.open_unit; there = inr r.there; is = r.is }
unit_step os below t first (Ok b) judge a go = ⊎_elim
    (λ here. record { open_unit = first; there = inl refl; is = judged_is below first.stands t (judge ∙ ap (λ (x : Block). ok_of x) here) })
    (λ later. let r = go (b ∷ below) later in record { open_unit = r.open_unit; there = inr r.there; is = r.is })
    a

unit_of : (os : List OpenUnit) (below : List Block) (t : Block) → In t (taken_above os below) → HasUnit os t
unit_of [] below t a = absurd a
unit_of (p ∷ ps) below t a = unit_step ps below t p (judged below p.stands) refl a (λ next x. unit_of ps next t x)

no_rejects : (rs : List Reject) → are_none rs ≡ true → rs ≡ []
no_rejects [] e = refl
no_rejects (r ∷ rs) e = absurd (cc e)

-- ---- of a view

pub open_taken : (v : View) (o : OpenUnit) → has_no_rejects v ≡ true → In o v.open_units → HasTaken (taken v) o
open_taken v o none a = taken_at v.open_units [] o (no_rejects (rejects v) none) a

module _ (h : Head) (units : Units) (read : AreRead h units) where
  -- a taken block stands at an open unit
  pub taken_stands : (t : Block) → In t (taken (view h units)) → StandsOpen units.is_open units t.unit t
  taken_stands t a =
      let r = unit_of (view h units).open_units [] t a in
      let u = open_unit units.is_open units.stands units.count 0 r.open_unit r.there in
      let most = u.most in
      let stands : units.stands r.open_unit.unit ≡ Ok t = sym u.is ∙ r.is in
      let at : t.unit ≡ r.open_unit.unit = (read r.open_unit.unit t stands).unit in
      subst (λ x. StandsOpen units.is_open units x t) (sym at) (record { inside = omega arith; opened = u.opened; stands = stands })

  -- and a block at an open unit is taken
  pub stands_taken : (u : ℕ) (t : Block) → has_no_rejects (view h units) ≡ true → StandsOpen units.is_open units u t → In t (taken (view h units))
  stands_taken u t none s =
      let inside = s.inside in
      let r = open_taken (view h units) (record { unit = u; stands = units.stands u }) none
      (unit_open units.is_open units.stands units.count 0 u (omega arith) (omega arith) s.opened) in
      let is = r.is in
      let stands = s.stands in
      let same : r.block ≡ t = cc (is, stands) in
      subst (λ x. In x (taken (view h units))) same r.there

  -- an open unit is that of a taken block
  pub unit_taken : (o : OpenUnit) → has_no_rejects (view h units) ≡ true → In o (view h units).open_units → (t : Block) × In t (taken (view h units)) × (t.unit ≡ o.unit)
  unit_taken o none a =
      let r = open_taken (view h units) o none a in
      let u = open_unit units.is_open units.stands units.count 0 o a in
      (r.block, r.there, (read o.unit r.block (sym u.is ∙ r.is)).unit)

-- ---- taken blocks ascend

abbrev pub Below : OpenUnit → OpenUnit → Type 0
Below o p = o.unit < p.unit

with_first : (b : Bool) (stands : ℕ → Standing) (u : ℕ) (os : List OpenUnit) → ((o : OpenUnit) → In o os → suc u ≤ o.unit) → Pairs Below os
    → Pairs Below (with_unit b stands u os)
with_first true stands u os least pairs = (λ o a. let l = least o a in omega arith, pairs)
with_first false stands u os least pairs = pairs

ascending : (gates : Gates) (stands : ℕ → Standing) (n u : ℕ) → Pairs Below (open_from gates stands n u)
ascending gates stands zero u = tt
ascending gates stands (suc n) u = with_first (gates u) stands u (open_from gates stands n (suc u))
    (λ o a. (open_unit gates stands n (suc u) o a).least) (ascending gates stands n (suc u))

abbrev pub Lower : Block → Block → Type 0
Lower s t = s.unit < t.unit

abbrev AreAt : List OpenUnit → Type 0
AreAt os = (o : OpenUnit) (t : Block) → In o os → o.stands ≡ Ok t → t.unit ≡ o.unit

lower_step : (os : List OpenUnit) (below : List Block) (first : OpenUnit) (j : Standing) → judged below first.stands ≡ j
    → ((o : OpenUnit) → In o os → first.unit < o.unit) → AreAt (first ∷ os) → ((next : List Block) → Pairs Lower (taken_above os next))
    → Pairs Lower (taken_next (taken_above os) below j)
lower_step os below first (Err reason) judge under at go = go below
lower_step os below first (Ok t) judge under at go = (
  λ s a.
      let r = unit_of os (t ∷ below) s a in
      let own : t.unit ≡ first.unit = at first t (inl refl) (judged_is below first.stands t judge) in
      let other : s.unit ≡ r.open_unit.unit = at r.open_unit s (inr r.there) r.is in
      let l = under r.open_unit r.there in
      omega arith,
  go (t ∷ below),
)

lower : (os : List OpenUnit) (below : List Block) → Pairs Below os → AreAt os → Pairs Lower (taken_above os below)
lower [] below pairs at = tt
lower (o ∷ os) below pairs at = lower_step os below o (judged below o.stands) refl pairs.0 at
    (λ next. lower os next pairs.1 (λ p t a is. at p t (inr a) is))

pub taken_lower : (h : Head) (units : Units) → AreRead h units → Pairs Lower (taken (view h units))
taken_lower h units read = lower (view h units).open_units [] (ascending units.is_open units.stands units.count 0) (λ o t a is.
    (read o.unit t (sym (open_unit units.is_open units.stands units.count 0 o a).is ∙ is)).unit)
