-- There are no rejects just where each open unit has a block, and these do not meet and share no key.
use Rattle.std.proofs.Common.{◌≡◌, ◌≤◌, ◌<◌, ◌⊎◌, inl, inr, ⊎_elim, ℕ, zero, suc, ◌+◌, ◌^◌, Bool, true, false, nat_le, nat_lt, List, [], ◌∷◌, find}
use Rattle.std.proofs.Common.{None, Ok, Err, refl, sym, ap, ◌∙◌, subst, arith}
use Rattle.std.specs.List.{AllByRecursion}
use Rattle.std.proofs.lemmas.Bool.{cases_Bool, cases_order, both_ways, and_cases, leb-false, ltb-false, and_right, le-ltb}
use Rattle.term_model.specs.TermValue.{TermValue}
use Rattle.term_model.specs.Order.{is_same}
use Rattle.term_model.specs.Same.{equal_from_same, same_self}
use Rattle.file_model.specs.declared.head.Head.{Head}
use Rattle.file_model.specs.declared.reject.Reject.{Reject}
use Rattle.file_model.specs.Block.{Block, Standing}
use Rattle.file_model.specs.View.{Units, with_unit, open_from, view}
use Rattle.file_model.specs.Taken.{covers, block_has, judged, taken_above, taken, rejects_next, rejects_above, rejects}
use Rattle.file_model.specs.Judgement.{IsTaken}
use Rattle.file_model.specs.Fit.{are_none, has_no_rejects}
use Rattle.file_model.specs.Gates.{Gates, AreRead, StandsOpen, OpenAtTaken}
use Rattle.file_model.specs.BodyWrites.{Body, MeetsNone}
use Rattle.file_model.specs.Free.{IsFreeIn}
use Rattle.file_model.proofs.Members.{In, of_all}
use Rattle.file_model.proofs.Judged.{is_taken, takes}

-- a block is covered by none of these and has the key of none
abbrev IsClearOf : List Block → Block → Type 0
IsClearOf below t = (b : Block) → In b below → (covers t.unit b ≡ false) × (block_has t.key b ≡ false)

none_in : (p : Block → Bool) (bs : List Block) → find p bs ≡ None → (b : Block) → In b bs → p b ≡ false
none_in p [] e b a = absurd a
none_in p (c ∷ cs) e b a = ⊎_elim
    (λ yes. absurd (cc (rw yes at e)))
    (λ no. ⊎_elim (λ here. subst (λ x. p x ≡ false) here no) (λ later. none_in p cs (rw no at e) b later) a)
    (cases_Bool (p c))

find_none : (p : Block → Bool) (bs : List Block) → ((b : Block) → In b bs → p b ≡ false) → find p bs ≡ None
find_none p [] none = refl
find_none p (c ∷ cs) none = rw (none c (inl refl)) (find_none p cs (λ b a. none b (inr a)))

-- what stands at an open unit is a block that is clear of those below
record Found (stands : ℕ → Standing) (below : List Block) (w : ℕ) : Type 0 where
  block : Block
  is : stands w ≡ Ok block
  clear : IsClearOf below block

record AllTaken (gates : Gates) (stands : ℕ → Standing) (n u : ℕ) (below : List Block) : Type 0 where
  each : (w : ℕ) → u ≤ w → w < u + n → gates w ≡ true → Found stands below w
  pair : (w x : ℕ) (s t : Block) → u ≤ w → w < x → x < u + n → gates w ≡ true → gates x ≡ true → stands w ≡ Ok s → stands x ≡ Ok t
      → (covers t.unit s ≡ false) × (block_has t.key s ≡ false)

next_taken : (rest : List Block → List Reject) (u : ℕ) (below : List Block) (j : Standing) → rejects_next rest u below j ≡ []
    → (t : Block) × (j ≡ Ok t) × (rest (t ∷ below) ≡ [])
next_taken rest u below (Err reason) e = absurd (cc e)
next_taken rest u below (Ok t) e = (t, refl, e)

clear_of : (below : List Block) (t : Block) → IsTaken below t → IsClearOf below t
clear_of below t taken b a = (none_in (covers t.unit) below taken.uncovered b a, none_in (block_has t.key) below taken.other_keys b a)

all_taken : (gates : Gates) (stands : ℕ → Standing) (n u : ℕ) (below : List Block) → rejects_above (open_from gates stands n u) below ≡ []
    → AllTaken gates stands n u below
all_taken gates stands zero u below e = record { each = λ w a b o. absurd (omega arith); pair = λ w x s t a l b o p f g. absurd (omega arith) }
all_taken gates stands (suc n) u below e = ⊎_elim
    (λ yes.
    let r = next_taken (rejects_above (open_from gates stands n (suc u))) u below (judged below (stands u)) (rw yes at e) in
    let j = is_taken below (stands u) r.0 r.1 in
    let go = all_taken gates stands n (suc u) (r.0 ∷ below) r.2 in
    record {
      each = λ w a b o. ⊎_elim
          (λ same. subst (λ x. Found stands below x) same (record { block = r.0; is = j.0; clear = clear_of below r.0 j.1 }))
          (λ apart.
          let f = go.each w (⊎_elim (λ l. omega arith) (λ l. absurd (omega arith)) apart) (omega arith) o in
          record { block = f.block; is = f.is; clear = λ c d. f.clear c (inr d) })
          (cases_order u w);
      pair = λ w x s t a l b o p f g. ⊎_elim
          (λ same.
          let q = go.each x (omega arith) (omega arith) p in
          let s_is : r.0 ≡ s = cc (j.0, f, ap stands same) in
          let t_is : q.block ≡ t = cc (q.is, g) in
          let c = q.clear r.0 (inl refl) in
          subst (λ (y : Block). (covers t.unit y ≡ false) × (block_has t.key y ≡ false)) s_is
          (subst (λ (y : Block). (covers y.unit r.0 ≡ false) × (block_has y.key r.0 ≡ false)) t_is c))
          (λ apart. go.pair w x s t (⊎_elim (λ m. omega arith) (λ m. absurd (omega arith)) apart) l (omega arith) o p f g)
          (cases_order u w);
    })
    (λ shut.
    let go = all_taken gates stands n (suc u) below (rw shut at e) in
    let above : (w : ℕ) → u ≤ w → gates w ≡ true → suc u ≤ w = λ w a o. ⊎_elim
    (λ same. absurd (both_ways _ (ap gates (sym same) ∙ shut) o))
    (λ apart. ⊎_elim (λ m. omega arith) (λ m. absurd (omega arith)) apart)
    (cases_order u w) in
    record {
      each = λ w a b o. go.each w (above w a o) (omega arith) o;
      pair = λ w x s t a l b o p f g. go.pair w x s t (above w a o) l (omega arith) o p f g;
    })
    (cases_Bool (gates u))

-- the first open unit is taken, and then so are the others
next_all : (gates : Gates) (stands : ℕ → Standing) (n u : ℕ) (below : List Block) (all : AllTaken gates stands (suc n) u below) (f : Found stands below u)
    → gates u ≡ true → AllTaken gates stands n (suc u) (f.block ∷ below)
next_all gates stands n u below all f opened = record {
  each = λ w a b o. let g = all.each w (omega arith) (omega arith) o in record {
    block = g.block;
    is = g.is;
    clear = λ c d. ⊎_elim
        (λ here. subst (λ (y : Block). (covers g.block.unit y ≡ false) × (block_has g.block.key y ≡ false)) here
        (all.pair u w f.block g.block (omega arith) (omega arith) (omega arith) opened o f.is g.is))
        (λ later. g.clear c later)
        d;
  };
  pair = λ w x s t a l b o p f g. all.pair w x s t (omega arith) l (omega arith) o p f g;
}

skip_all : (gates : Gates) (stands : ℕ → Standing) (n u : ℕ) (below : List Block) → AllTaken gates stands (suc n) u below
    → AllTaken gates stands n (suc u) below
skip_all gates stands n u below all = record {
  each = λ w a b o. all.each w (omega arith) (omega arith) o;
  pair = λ w x s t a l b o p f g. all.pair w x s t (omega arith) l (omega arith) o p f g;
}

judged_found : (stands : ℕ → Standing) (below : List Block) (u : ℕ) (f : Found stands below u) → judged below (stands u) ≡ Ok f.block
judged_found stands below u f =
    ap (judged below) f.is
    ∙ takes below f.block (record {
      uncovered = find_none (covers f.block.unit) below (λ b a. (f.clear b a).0);
      other_keys = find_none (block_has f.block.key) below (λ b a. (f.clear b a).1);
    })

no_rejects : (gates : Gates) (stands : ℕ → Standing) (n u : ℕ) (below : List Block) → AllTaken gates stands n u below
    → rejects_above (open_from gates stands n u) below ≡ []
no_rejects gates stands zero u below all = refl
no_rejects gates stands (suc n) u below all = ⊎_elim
    (λ yes.
    let f = all.each u (omega arith) (omega arith) yes in
    rw (yes, judged_found stands below u f) (no_rejects gates stands n (suc u) (f.block ∷ below) (next_all gates stands n u below all f yes)))
    (λ shut. rw shut (no_rejects gates stands n (suc u) below (skip_all gates stands n u below all)))
    (cases_Bool (gates u))

-- each block at an open unit is among the taken ones
among_taken : (gates : Gates) (stands : ℕ → Standing) (w : ℕ) (t : Block) → gates w ≡ true → stands w ≡ Ok t → (n u : ℕ) (below : List Block)
    → AllTaken gates stands n u below → u ≤ w → w < u + n → In t (taken_above (open_from gates stands n u) below)
among_taken gates stands w t o e zero u below all a b = absurd (omega arith)
among_taken gates stands w t o e (suc n) u below all a b = ⊎_elim
    (λ yes.
    let f = all.each u (omega arith) (omega arith) yes in
    rw (yes, judged_found stands below u f)
    (⊎_elim
    (λ same. let is : f.block ≡ t = cc (f.is, e, ap stands same) in inl is)
    (λ apart. inr (among_taken gates stands w t o e n (suc u) (f.block ∷ below) (next_all gates stands n u below all f yes)
    (⊎_elim (λ l. omega arith) (λ l. absurd (omega arith)) apart) (omega arith)))
    (cases_order u w)))
    (λ shut. rw shut (among_taken gates stands w t o e n (suc u) below (skip_all gates stands n u below all)
    (⊎_elim
    (λ same. absurd (both_ways _ (ap gates (sym same) ∙ shut) o))
    (λ apart. ⊎_elim (λ l. omega arith) (λ l. absurd (omega arith)) apart)
    (cases_order u w)) (omega arith)))
    (cases_Bool (gates u))

-- ---- of a file

empty_list : (rs : List Reject) → are_none rs ≡ true → rs ≡ []
empty_list [] e = refl
empty_list (r ∷ rs) e = absurd (cc e)

past_cover : (u : ℕ) (b : Block) → covers u b ≡ false → b.unit ≤ u → b.unit + 2 ^ b.exp ≤ u
past_cover u b c l = ⊎_elim
    (λ e. absurd (let m = leb-false b.unit u e in omega arith))
    (λ e. ltb-false u (b.unit + 2 ^ b.exp) e)
    (and_cases _ _ c)

pub from_no_rejects : (h : Head) (units : Units) → AreRead h units → has_no_rejects (view h units) ≡ true → OpenAtTaken units
from_no_rejects h units read e =
    let all = all_taken units.is_open units.stands units.count 0 [] (empty_list (rejects (view h units)) e) in
    record {
      blocks = λ u l o. let f = all.each u (omega arith) (omega arith) o in (f.block, f.is);
      apart = λ u w b c x y l.
          let inside = y.inside in
          let p = (all.pair u w b c (omega arith) l (omega arith) x.opened y.opened x.stands y.stands).0 in
          let ub = (read u b x.stands).unit in
          let uc = (read w c y.stands).unit in
          let past = past_cover c.unit b p (omega arith) in
          omega arith;
      keys = λ u w b c x y l same.
          let inside = y.inside in
          let p = (all.pair u w b c (omega arith) l (omega arith) x.opened y.opened x.stands y.stands).1 in
          both_ways _ p (subst (λ k. is_same b.key k ≡ true) same (same_self b.key));
    }

same_false : (a b : TermValue) → (a ≡ b → ⊥) → is_same a b ≡ false
same_false a b differ = ⊎_elim (λ yes. absurd (differ (equal_from_same a b yes))) (λ no. no) (cases_Bool (is_same a b))

all_at_taken : (h : Head) (units : Units) → AreRead h units → OpenAtTaken units → AllTaken units.is_open units.stands units.count 0 []
all_at_taken h units read at_taken = record {
  each = λ w a b o. let f = at_taken.blocks w (omega arith) o in record { block = f.0; is = f.1; clear = λ c d. absurd d };
  pair = λ w x s t a l b o p f g.
      let first : StandsOpen units.is_open units w s = record { inside = omega arith; opened = o; stands = f } in
      let second : StandsOpen units.is_open units x t = record { inside = omega arith; opened = p; stands = g } in
      let us = (read w s f).unit in
      let ut = (read x t g).unit in
      let past = at_taken.apart w x s t first second l in
      let behind : s.unit + 2 ^ s.exp ≤ t.unit = omega arith in (
        and_right (nat_le s.unit t.unit) (nat_lt t.unit (s.unit + 2 ^ s.exp)) (le-ltb t.unit (s.unit + 2 ^ s.exp) behind),
        same_false s.key t.key (λ same. at_taken.keys w x s t first second l same),
      );
}

pub to_no_rejects : (h : Head) (units : Units) → AreRead h units → OpenAtTaken units → has_no_rejects (view h units) ≡ true
to_no_rejects h units read at_taken =
    ap are_none (no_rejects units.is_open units.stands units.count 0 [] (all_at_taken h units read at_taken))

-- ---- free runs

-- an open unit is none of the run
open_outside : (gates : Gates) (stands : ℕ → Standing) (P : ℕ → Type 0) (w n u : ℕ) → AllByRecursion (λ o. P o.unit) (open_from gates stands n u)
    → gates w ≡ true → u ≤ w → w < u + n → P w
open_outside gates stands P w zero u all o a b = absurd (omega arith)
open_outside gates stands P w (suc n) u all o a b = ⊎_elim
    (λ yes.
    let opened : AllByRecursion (λ o. P o.unit) (with_unit true stands u (open_from gates stands n (suc u))) = rw yes at all in
    ⊎_elim
    (λ same. subst P same opened.0)
    (λ apart. open_outside gates stands P w n (suc u) opened.1 o (⊎_elim (λ l. omega arith) (λ l. absurd (omega arith)) apart) (omega arith))
    (cases_order u w))
    (λ shut. open_outside gates stands P w n (suc u) (rw shut at all) o
    (⊎_elim
    (λ same. absurd (both_ways _ (ap gates (sym same) ∙ shut) o))
    (λ apart. ⊎_elim (λ l. omega arith) (λ l. absurd (omega arith)) apart)
    (cases_order u w)) (omega arith))
    (cases_Bool (gates u))

-- where open gates stand at taken units alone, a run that is free meets no block at an open unit
pub free_meets_none : (h : Head) (units : Units) (b : Body) → AreRead h units → OpenAtTaken units → IsFreeIn (view h units) b.unit b.exp
    → MeetsNone units b
free_meets_none h units b read at_taken free u t there =
    let inside = there.inside in
    let all = all_at_taken h units read at_taken in
    let a = among_taken units.is_open units.stands u t there.opened there.stands units.count 0 [] all (omega arith) (omega arith) in
    let own = (read u t there.stands).unit in
    ⊎_elim
    (λ l. inl (omega arith))
    (λ l. inr (omega arith))
    (of_all (λ x. (x.unit + 2 ^ x.exp ≤ b.unit) ⊎ (b.unit + 2 ^ b.exp ≤ x.unit)) (taken (view h units)) t free.apart a)

-- and its gates are closed
pub free_is_shut : (h : Head) (units : Units) (unit exp w : ℕ) → IsFreeIn (view h units) unit exp → unit ≤ w → w < unit + 2 ^ exp → w < units.count
    → units.is_open w ≡ false
free_is_shut h units unit exp w free from below inside = ⊎_elim
    (λ o. absurd (⊎_elim (λ l. omega arith) (λ l. omega arith)
    (open_outside units.is_open units.stands (λ x. (x < unit) ⊎ (unit + 2 ^ exp ≤ x)) w units.count 0 free.shut o (omega arith) (omega arith))))
    (λ shut. shut)
    (cases_Bool (units.is_open w))
