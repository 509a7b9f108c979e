-- While gates change from some to others, each key has its old or its new objects.
use Rattle.std.proofs.Common.{◌≡◌, ◌≤◌, ◌<◌, ◌⊎◌, inl, inr, ⊎_elim, ℕ, zero, suc, ◌+◌, Bool, true, false, ◌&&◌, [], Ok, Err, refl, sym, ap, ◌∙◌, subst, arith}
use Rattle.std.specs.Prelude.{◌≢◌}
use Rattle.std.proofs.lemmas.Bool.{cases_Bool, cases_order, both_ways, or_cases, false_from_ne_true, or_left, or_right, and_from, and_parts}
use Rattle.term_model.specs.TermValue.{TermValue}
use Rattle.term_model.specs.Same.{equal_from_same, same_self}
use Rattle.table_model.specs.Table.{objects_of}
use Rattle.file_model.specs.declared.head.Head.{Head}
use Rattle.file_model.specs.Block.{Block, Standing}
use Rattle.file_model.specs.View.{Units}
use Rattle.file_model.specs.Gates.{Gates, AreRead, StandsOpen, NoneMeet, NoneShareKeys, standing_has, standing_objects, lowest_objects, OpenBetween}
use Rattle.file_model.specs.Gates.{either, table_with, OldOrNew, MayFlush}
use Rattle.file_model.proofs.Lowest.{lowest}

-- ---- blocks of a key

block_there : (k : TermValue) (s : Standing) → standing_has k s ≡ true → (b : Block) × (s ≡ Ok b) × (b.key ≡ k)
block_there k (Ok b) e = (b, refl, equal_from_same b.key k e)
block_there k (Err reason) e = absurd (cc e)

-- no two open units have a block of this key
abbrev Once : Gates → Units → TermValue → Type 0
Once gates units k = (u w : ℕ) → u < w → w < units.count → gates u ≡ true → gates w ≡ true → standing_has k (units.stands u) ≡ true
    → standing_has k (units.stands w) ≡ true → ⊥

once : (gates : Gates) (units : Units) (k : TermValue) → NoneShareKeys gates units → Once gates units k
once gates units k none u w l m o p a b =
    let x = block_there k (units.stands u) a in
    let y = block_there k (units.stands w) b in
    none u w x.0 y.0 (record { inside = omega arith; opened = o; stands = x.1 }) (record { inside = m; opened = p; stands = y.1 }) l (x.2 ∙ sym y.2)

pub fewer_meet : (fewer more : Gates) (units : Units) → ((u : ℕ) → fewer u ≡ true → more u ≡ true) → NoneMeet more units → NoneMeet fewer units
fewer_meet fewer more units so apart u w b c x y l =
    apart u w b c (record { inside = x.inside; opened = so u x.opened; stands = x.stands })
    (record { inside = y.inside; opened = so w y.opened; stands = y.stands }) l

-- ---- the lowest one

-- where the gates of blocks with this key are alike, it is the same
lowest_same : (first second : Gates) (stands : ℕ → Standing) (k : TermValue) (n u : ℕ)
    → ((w : ℕ) → u ≤ w → w < u + n → standing_has k (stands w) ≡ true → second w ≡ first w)
    → lowest_objects second stands k n u ≡ lowest_objects first stands k n u
lowest_same first second stands k zero u same = refl
lowest_same first second stands k (suc n) u same =
    let go = lowest_same first second stands k n (suc u) (λ w a b. same w (omega arith) (omega arith)) in
    ⊎_elim
    (λ has. rw (has, same u (omega arith) (omega arith) has, go) refl)
    (λ other. rw other go)
    (cases_Bool (standing_has k (stands u)))

-- a gate that is no other's is as the first ones have it
same_without : (first second now : Gates) (w : ℕ) → OpenBetween first second now → (second w ≡ true → ⊥) → now w ≡ first w
same_without first second now w between none = ⊎_elim
    (λ o. o ∙ sym (⊎_elim (λ a. a) (λ b. absurd (none b)) (between.at_most w o)))
    (λ shut. shut ∙ sym (false_from_ne_true (first w) (λ l. both_ways _ shut (between.at_least w l))))
    (cases_Bool (now w))

abbrev One : (first second now : Gates) → (ℕ → Standing) → TermValue → (n u : ℕ) → Type 0
One first second now stands k n u =
    (lowest_objects now stands k n u ≡ lowest_objects first stands k n u) ⊎ (lowest_objects now stands k n u ≡ lowest_objects second stands k n u)

-- a unit with a block of this key, by its three gates
at_block : (first second now : Gates) (units : Units) (k : TermValue) (n u : ℕ) → u + suc n ≤ units.count → OpenBetween first second now
    → Once second units k → standing_has k (units.stands u) ≡ true → One first second now units.stands k n (suc u)
    → (f s o : Bool) → first u ≡ f → second u ≡ s → now u ≡ o → One first second now units.stands k (suc n) u
at_block first second now units k n u fits between none has go f true true ef es eo = inr (rw (has, es, eo) refl)
at_block first second now units k n u fits between none has go true s false ef es eo = absurd (both_ways _ eo (between.at_least u ef))
at_block first second now units k n u fits between none has go true s true ef es eo = inl (rw (has, ef, eo) refl)
at_block first second now units k n u fits between none has go false false true ef es eo =
    absurd (⊎_elim (λ a. both_ways _ ef a) (λ b. both_ways _ es b) (between.at_most u eo))
at_block first second now units k n u fits between none has go false false false ef es eo = rw (has, ef, es, eo) go
at_block first second now units k n u fits between none has go false true false ef es eo =
    inl (rw (has, ef, eo) (lowest_same first now units.stands k n (suc u)
    (λ w a b h. same_without first second now w between (λ m. none u w (omega arith) (omega arith) es m has h))))

lowest_of_one : (first second now : Gates) (units : Units) (k : TermValue) (n u : ℕ) → u + n ≤ units.count → OpenBetween first second now
    → Once second units k → One first second now units.stands k n u
lowest_of_one first second now units k zero u fits between none = inl refl
lowest_of_one first second now units k (suc n) u fits between none =
    let go = lowest_of_one first second now units k n (suc u) (omega arith) between none in
    ⊎_elim
    (λ has. at_block first second now units k n u fits between none has go (first u) (second u) (now u) refl refl refl)
    (λ other. rw other go)
    (cases_Bool (standing_has k (units.stands u)))

-- ---- of tables

-- gates of which the first ones are open, and besides them some of the second
pub one_of : (h : Head) (units : Units) (first second now : Gates) → AreRead h units → NoneMeet (either first second) units
    → NoneShareKeys second units → OpenBetween first second now → OldOrNew (table_with h units first) (table_with h units second) (table_with h units now)
one_of h units first second now read apart keys between =
    let of = λ (gates : Gates) (so : (u : ℕ) → gates u ≡ true → either first second u ≡ true) (k : TermValue).
    lowest h units gates k read (fewer_meet gates (either first second) units so apart) in
    let of_now = of now (λ u o. ⊎_elim (λ l. or_left _ _ l) (λ m. or_right _ _ m) (between.at_most u o)) in
    let of_first = of first (λ u l. or_left _ _ l) in
    let of_second = of second (λ u m. or_right _ _ m) in
    record {
      kind = refl;
      keypos = refl;
      objects = λ k. ⊎_elim
          (λ e. inl (of_now k ∙ e ∙ sym (of_first k)))
          (λ e. inr (of_now k ∙ e ∙ sym (of_second k)))
          (lowest_of_one first second now units k units.count 0 (omega arith) between (once second units k keys));
    }

pub while_opening : (h : Head) (units : Units) (before after now : Gates) → MayFlush h units before after → OpenBetween before after now
    → OldOrNew (table_with h units before) (table_with h units after) (table_with h units now)
while_opening h units before after now may between = one_of h units before after now may.read may.apart may.keys_after between

pub while_closing : (h : Head) (units : Units) (before after now : Gates) → MayFlush h units before after → OpenBetween after before now
    → OldOrNew (table_with h units before) (table_with h units after) (table_with h units now)
while_closing h units before after now may between =
    let turned : NoneMeet (either after before) units = fewer_meet (either after before) (either before after) units
    (λ u o. ⊎_elim (λ a. or_right _ _ a) (λ b. or_left _ _ b) (or_cases (after u) (before u) o)) may.apart in
    let one = one_of h units after before now may.read turned may.keys_before between in
    record { kind = refl; keypos = refl; objects = λ k. ⊎_elim (λ a. inr a) (λ b. inl b) (one.objects k) }

-- ---- what a key has

not_here : (gates : Gates) (stands : ℕ → Standing) (k : TermValue) (u w : ℕ) → (standing_has k (stands u) && gates u) ≡ false → gates w ≡ true
    → standing_has k (stands w) ≡ true → u ≢ w
not_here gates stands k u w there o has same =
    both_ways _ (subst (λ x. (standing_has k (stands x) && gates x) ≡ false) same there) (and_from _ _ has o)

-- the objects of the only block of a key
lowest_at : (gates : Gates) (units : Units) (k : TermValue) (w n u : ℕ) → u + n ≤ units.count → Once gates units k → gates w ≡ true
    → standing_has k (units.stands w) ≡ true → u ≤ w → w < u + n → lowest_objects gates units.stands k n u ≡ standing_objects (units.stands w)
lowest_at gates units k w zero u fits none o has a b = absurd (omega arith)
lowest_at gates units k w (suc n) u fits none o has a b = ⊎_elim
    (λ here. rw here (⊎_elim
    (λ same. ap (λ x. standing_objects (units.stands x)) same)
    (λ apart. ⊎_elim
    (λ below. absurd (let p = and_parts _ _ here in none u w below (omega arith) p.1 o p.0 has))
    (λ above. absurd (omega arith))
    apart)
    (cases_order u w)))
    (λ there.
    let other = not_here gates units.stands k u w there o has in
    rw there (lowest_at gates units k w n (suc u) (omega arith) none o has (omega (arith, other)) (omega arith)))
    (cases_Bool (standing_has k (units.stands u) && gates u))

lowest_none : (gates : Gates) (stands : ℕ → Standing) (k : TermValue) (n u : ℕ)
    → ((w : ℕ) → w < u + n → standing_has k (stands w) ≡ true → gates w ≡ true → ⊥) → lowest_objects gates stands k n u ≡ []
lowest_none gates stands k zero u none = refl
lowest_none gates stands k (suc n) u none = ⊎_elim
    (λ here. absurd (let p = and_parts _ _ here in none u (omega arith) p.0 p.1))
    (λ there. rw there (lowest_none gates stands k n (suc u) (λ w a has o. none w (omega arith) has o)))
    (cases_Bool (standing_has k (stands u) && gates u))

pub only_block : (h : Head) (units : Units) (gates : Gates) (u : ℕ) (b : Block) → AreRead h units → NoneMeet gates units → NoneShareKeys gates units
    → StandsOpen gates units u b → objects_of (table_with h units gates) b.key ≡ b.objects
only_block h units gates u b read apart keys there =
    let has : standing_has b.key (units.stands u) ≡ true = rw there.stands (same_self b.key) in
    let below = there.inside in
    lowest h units gates b.key read apart
    ∙ lowest_at gates units b.key u units.count 0 (omega arith) (once gates units b.key keys) there.opened has (omega arith) (omega arith)
    ∙ ap standing_objects there.stands

pub no_block : (h : Head) (units : Units) (gates : Gates) (k : TermValue) → AreRead h units → NoneMeet gates units
    → ((u : ℕ) (b : Block) → StandsOpen gates units u b → b.key ≡ k → ⊥) → objects_of (table_with h units gates) k ≡ []
no_block h units gates k read apart none =
    lowest h units gates k read apart
    ∙ lowest_none gates units.stands k units.count 0 (λ w a has o.
    let x = block_there k (units.stands w) has in none w x.0 (record { inside = omega arith; opened = o; stands = x.1 }) x.2)

pub other_gates : (h : Head) (units : Units) (before after : Gates) (k : TermValue) → AreRead h units → NoneMeet before units → NoneMeet after units
    → ((u : ℕ) (b : Block) → u < units.count → units.stands u ≡ Ok b → b.key ≡ k → after u ≡ before u)
    → objects_of (table_with h units after) k ≡ objects_of (table_with h units before) k
other_gates h units before after k read apart apart_after same =
    lowest h units after k read apart_after
    ∙ lowest_same before after units.stands k units.count 0 (λ w a b has. let x = block_there k (units.stands w) has in same w x.0 (omega arith) x.1 x.2)
    ∙ sym (lowest h units before k read apart)
