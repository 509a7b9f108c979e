-- Closing the gates of rejects leaves the taken blocks.
use Rattle.std.proofs.Common.{◌≡◌, ◌≤◌, ◌<◌, ⊎_elim, ℕ, zero, suc, ◌+◌, true, false, ◌==◌, List, [], ◌∷◌, map, Ok, Err, refl, ap, ◌∙◌, subst, arith}
use Rattle.std.proofs.lemmas.Bool.{cases_Bool, both_ways, or_cases, or_left, or_right, eqb-true, eq-eqb}
use Rattle.file_model.specs.declared.head.Head.{Head}
use Rattle.file_model.specs.declared.reject.Reason.{Reason}
use Rattle.file_model.specs.declared.reject.Reject.{Reject}
use Rattle.file_model.specs.Block.{Block, Standing}
use Rattle.file_model.specs.View.{Units, open_from, view}
use Rattle.file_model.specs.Taken.{judged, taken_next, taken_above, rejects_next, rejects_above, taken, objects_in, table_of}
use Rattle.file_model.specs.Fit.{are_none, has_no_rejects}
use Rattle.file_model.specs.Gates.{Gates, with_gates, is_among, rejected_units, ClosesRejects, table_with}

abbrev units : List Reject → List ℕ
units rs = map (λ r. r.unit) rs

-- the rejects from one unit on are not below it
above_next : (rest : List Block → List Reject) (u w : ℕ) (below : List Block) (s : Standing)
    → ((bs : List Block) → is_among (units (rest bs)) w ≡ true → suc u ≤ w) → is_among (units (rejects_next rest u below s)) w ≡ true → u ≤ w
above_next rest u w below (Ok b) go e = let l = go (b ∷ below) e in omega arith
above_next rest u w below (Err reason) go e = ⊎_elim
    (λ here. let same : u ≡ w = eqb-true u w here in omega arith)
    (λ there. let l = go below there in omega arith)
    (or_cases (u == w) (is_among (units (rest below)) w) e)

above : (gates : Gates) (stands : ℕ → Standing) (n u w : ℕ) (below : List Block)
    → is_among (units (rejects_above (open_from gates stands n u) below)) w ≡ true → u ≤ w
above gates stands zero u w below e = absurd (cc e)
above gates stands (suc n) u w below e = ⊎_elim
    (λ opened. above_next (rejects_above (open_from gates stands n (suc u))) u w below (judged below (stands u))
    (λ bs f. above gates stands n (suc u) w bs f) (rw opened at e))
    (λ shut. let l = above gates stands n (suc u) w below (rw shut at e) in omega arith)
    (cases_Bool (gates u))

-- what is closed now is among the rejects of so many units from one on, above these blocks
record Closes (gates now : Gates) (stands : ℕ → Standing) (n u : ℕ) (below : List Block) : Type 0 where
  no_others : (w : ℕ) → now w ≡ true → gates w ≡ true
  rejected : (w : ℕ) → u ≤ w → w < u + n → gates w ≡ true → now w ≡ false
      → is_among (units (rejects_above (open_from gates stands n u) below)) w ≡ true

-- at an open unit that is taken, at one that is not, and at one that is closed
after_taken : (gates now : Gates) (stands : ℕ → Standing) (n u : ℕ) (below : List Block) (b : Block) → gates u ≡ true
    → judged below (stands u) ≡ Ok b → Closes gates now stands (suc n) u below → Closes gates now stands n (suc u) (b ∷ below)
after_taken gates now stands n u below b opened j c = record {
  no_others = c.no_others;
  rejected = λ w l m o shut. rw (opened, j) at (c.rejected w (omega arith) (omega arith) o shut);
}

after_rejected : (gates now : Gates) (stands : ℕ → Standing) (n u : ℕ) (below : List Block) (reason : Reason) → gates u ≡ true
    → judged below (stands u) ≡ Err reason → Closes gates now stands (suc n) u below → Closes gates now stands n (suc u) below
after_rejected gates now stands n u below reason opened j c = record {
  no_others = c.no_others;
  rejected = λ w l m o shut. ⊎_elim
      (λ here. absurd (let same : u ≡ w = eqb-true u w here in omega arith))
      (λ there. there)
      (or_cases (u == w) (is_among (units (rejects_above (open_from gates stands n (suc u)) below)) w)
      (rw (opened, j) at (c.rejected w (omega arith) (omega arith) o shut)));
}

after_closed : (gates now : Gates) (stands : ℕ → Standing) (n u : ℕ) (below : List Block) → gates u ≡ false
    → Closes gates now stands (suc n) u below → Closes gates now stands n (suc u) below
after_closed gates now stands n u below closed c = record {
  no_others = c.no_others;
  rejected = λ w l m o shut. rw closed at (c.rejected w (omega arith) (omega arith) o shut);
}

-- a taken unit is not closed
stays : (gates now : Gates) (stands : ℕ → Standing) (n u : ℕ) (below : List Block) (b : Block) → gates u ≡ true → judged below (stands u) ≡ Ok b
    → Closes gates now stands (suc n) u below → now u ≡ true
stays gates now stands n u below b opened j c = ⊎_elim
    (λ o. o)
    (λ shut. absurd (
    let among = rw (opened, j) at (c.rejected u (omega arith) (omega arith) opened shut) in
    let l = above gates stands n (suc u) u (b ∷ below) among in omega arith))
    (cases_Bool (now u))

abbrev Same : (gates now : Gates) → (ℕ → Standing) → (n u : ℕ) → List Block → Type 0
Same gates now stands n u below = taken_above (open_from now stands n u) below ≡ taken_above (open_from gates stands n u) below

at_open : (gates now : Gates) (stands : ℕ → Standing) (n u : ℕ) (below : List Block) (s : Standing) → gates u ≡ true → judged below (stands u) ≡ s
    → Closes gates now stands (suc n) u below → ((bs : List Block) → Closes gates now stands n (suc u) bs → Same gates now stands n (suc u) bs)
    → taken_above (open_from now stands (suc n) u) below ≡ taken_next (taken_above (open_from gates stands n (suc u))) below s
at_open gates now stands n u below (Ok b) opened j c go =
    rw (stays gates now stands n u below b opened j c, j) (ap (λ bs. b ∷ bs) (go (b ∷ below) (after_taken gates now stands n u below b opened j c)))
at_open gates now stands n u below (Err reason) opened j c go = ⊎_elim
    (λ o. rw o (ap (λ s. taken_next (taken_above (open_from now stands n (suc u))) below s) j
    ∙ go below (after_rejected gates now stands n u below reason opened j c)))
    (λ shut. rw shut (go below (after_rejected gates now stands n u below reason opened j c)))
    (cases_Bool (now u))

taken_without : (gates now : Gates) (stands : ℕ → Standing) (n u : ℕ) (below : List Block) → Closes gates now stands n u below
    → Same gates now stands n u below
taken_without gates now stands zero u below c = refl
taken_without gates now stands (suc n) u below c = ⊎_elim
    (λ opened. rw opened (at_open gates now stands n u below (judged below (stands u)) opened refl c
    (λ bs d. taken_without gates now stands n (suc u) bs d)))
    (λ closed.
    let shut : now u ≡ false = ⊎_elim (λ o. absurd (both_ways _ closed (c.no_others u o))) (λ s. s) (cases_Bool (now u)) in
    rw (closed, shut) (taken_without gates now stands n (suc u) below (after_closed gates now stands n u below closed c)))
    (cases_Bool (gates u))

pub blocks_without : (h : Head) (file : Units) (now : Gates) → ClosesRejects h file now
    → taken (view h (with_gates file now)) ≡ taken (view h file)
blocks_without h file now c =
    taken_without file.is_open now file.stands file.count 0 [] (record {
      no_others = c.no_others;
      rejected = λ w l m o shut. c.rejected w (omega arith) o shut;
    })

pub table_without : (h : Head) (file : Units) (now : Gates) → ClosesRejects h file now → table_with h file now ≡ table_of (view h file)
table_without h file now c =
    let e = blocks_without h file now c in
    λ i. record { kind = h.kind; keypos = h.keypos; objects = objects_in (e i) }

-- ---- all of them closed

-- what is among the rejects of so many units from one on is one of these units, and open
pub rejects_open : (gates : Gates) (stands : ℕ → Standing) (n u w : ℕ) (below : List Block)
    → is_among (units (rejects_above (open_from gates stands n u) below)) w ≡ true → (gates w ≡ true) × (w < u + n)
rejects_open gates stands zero u w below e = absurd (cc e)
rejects_open gates stands (suc n) u w below e = ⊎_elim
    (λ opened. open_next gates stands n u w below (judged below (stands u)) opened (λ bs f. rejects_open gates stands n (suc u) w bs f) (rw opened at e))
    (λ shut. let r = rejects_open gates stands n (suc u) w below (rw shut at e) in let l = r.1 in (r.0, omega arith))
    (cases_Bool (gates u))
  where
    open_next : (gates : Gates) (stands : ℕ → Standing) (n u w : ℕ) (below : List Block) (s : Standing) → gates u ≡ true
        → ((bs : List Block) → is_among (units (rejects_above (open_from gates stands n (suc u)) bs)) w ≡ true → (gates w ≡ true) × (w < suc u + n))
        → is_among (units (rejects_next (rejects_above (open_from gates stands n (suc u))) u below s)) w ≡ true → (gates w ≡ true) × (w < u + suc n)
    open_next gates stands n u w below (Ok b) opened go e = let r = go (b ∷ below) e in let l = r.1 in (r.0, omega arith)
    open_next gates stands n u w below (Err reason) opened go e = ⊎_elim
        (λ here. let same : u ≡ w = eqb-true u w here in (subst (λ x. gates x ≡ true) same opened, omega arith))
        (λ there. let r = go below there in let l = r.1 in (r.0, omega arith))
        (or_cases (u == w) (is_among (units (rejects_above (open_from gates stands n (suc u)) below)) w) e)

-- each reject of so many units from one on, above these blocks, is closed now
abbrev AllClosed : (gates now : Gates) → (ℕ → Standing) → (n u : ℕ) → List Block → Type 0
AllClosed gates now stands n u below = (w : ℕ) → is_among (units (rejects_above (open_from gates stands n u) below)) w ≡ true → now w ≡ false

none_at_open : (gates now : Gates) (stands : ℕ → Standing) (n u : ℕ) (below : List Block) (s : Standing) → gates u ≡ true → judged below (stands u) ≡ s
    → Closes gates now stands (suc n) u below → AllClosed gates now stands (suc n) u below
    → ((bs : List Block) → Closes gates now stands n (suc u) bs → AllClosed gates now stands n (suc u) bs
    → rejects_above (open_from now stands n (suc u)) bs ≡ [])
    → rejects_above (open_from now stands (suc n) u) below ≡ []
none_at_open gates now stands n u below (Ok b) opened j c all go =
    rw (stays gates now stands n u below b opened j c, j)
    (go (b ∷ below) (after_taken gates now stands n u below b opened j c) (λ w e. all w (rw (opened, j) e)))
none_at_open gates now stands n u below (Err reason) opened j c all go =
    let shut : now u ≡ false = all u (rw (opened, j) (or_left (u == u) _ (eq-eqb u u refl))) in
    rw shut (go below (after_rejected gates now stands n u below reason opened j c) (λ w e. all w (rw (opened, j) (or_right (u == w) _ e))))

none_rejected : (gates now : Gates) (stands : ℕ → Standing) (n u : ℕ) (below : List Block) → Closes gates now stands n u below
    → AllClosed gates now stands n u below → rejects_above (open_from now stands n u) below ≡ []
none_rejected gates now stands zero u below c all = refl
none_rejected gates now stands (suc n) u below c all = ⊎_elim
    (λ opened. none_at_open gates now stands n u below (judged below (stands u)) opened refl c all
    (λ bs d e. none_rejected gates now stands n (suc u) bs d e))
    (λ closed.
    let shut : now u ≡ false = ⊎_elim (λ o. absurd (both_ways _ closed (c.no_others u o))) (λ s. s) (cases_Bool (now u)) in
    rw shut (none_rejected gates now stands n (suc u) below (after_closed gates now stands n u below closed c) (λ w e. all w (rw closed e))))
    (cases_Bool (gates u))

pub none_without : (h : Head) (file : Units) (now : Gates) → ClosesRejects h file now
    → ((u : ℕ) → is_among (rejected_units (view h file)) u ≡ true → now u ≡ false) → has_no_rejects (view h (with_gates file now)) ≡ true
none_without h file now c all =
    ap are_none (none_rejected file.is_open now file.stands file.count 0 [] (record {
      no_others = c.no_others;
      rejected = λ w l m o shut. c.rejected w (omega arith) o shut;
    }) all)
