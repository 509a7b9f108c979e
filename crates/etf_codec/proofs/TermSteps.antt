-- Terms with parts, as formats read them.
use Rattle.std.proofs.Common.{◌≡◌, ℕ, zero, suc, ◌-◌, ◌<◌, ◌≤◌, ◌^◌, ◌⊎◌, Bool, true, false, List, [], ◌∷◌, length, Result, Ok, Err, refl, ap}
use Rattle.std.proofs.Common.{◌∙◌, inl, inr, arith}
use Rattle.std.specs.Prelude.{IfErr}
use Rattle.dets_term.specs.TermValue.{TermValue, tuple, nil, chain, elements, depth}
use Rattle.dets_term.specs.IsTerm.{built}
use Rattle.dets_term.specs.Parts.{deepest, parts_depth-chain, depth-list_of}
use Rattle.dets_term.specs.Limits.{built-within}
use Rattle.etf_model.specs.declared.fault.EtfFault.{EtfFault}
use Rattle.etf_model.specs.Format.{Position, Reading, byte, go_on}
use Rattle.etf_model.specs.Spelling.{count, list_of, no_tail, term_with, part_at, tail_at, body_of}
use Rattle.etf_codec.proofs.Bytes.{go_on_ok, go_on_err, test_passes, test_fails}

-- ---- a term by its tag

-- a tag that may stand here
pub term_step : (test : ℕ → Bool) (fault : ℕ → ℕ → EtfFault) (levels tag term : ℕ) (position next : Position) → 0 < levels
    → byte.read position.offset position ≡ Ok (tag, next) → test tag ≡ true
    → (term_with test fault levels).read term position ≡ (body_of (levels - 1) tag).read position.offset next
unfolding body_of
term_step test fault zero tag term position next h e t = absurd (omega arith)
term_step test fault (suc levels) tag term position next h e t =
    go_on_ok _ _ _ _ (test_passes _ tag next test (fault position.offset) e t) ∙ ap (λ n. (body_of n tag).read position.offset next) (omega arith)

-- one that may not
pub term_refused : (test : ℕ → Bool) (fault : ℕ → ℕ → EtfFault) (levels tag term : ℕ) (position next : Position) → 0 < levels
    → byte.read position.offset position ≡ Ok (tag, next) → test tag ≡ false
    → (term_with test fault levels).read term position ≡ Err (fault position.offset tag)
term_refused test fault zero tag term position next h e t = absurd (omega arith)
term_refused test fault (suc levels) tag term position next h e t = go_on_err _ _ _ (test_fails _ tag next test (fault position.offset) e t)

-- none
pub term_fails : (test : ℕ → Bool) (fault : ℕ → ℕ → EtfFault) (levels term : ℕ) (position : Position) (f : EtfFault) → 0 < levels
    → byte.read position.offset position ≡ Err f
    → (term_with test fault levels).read term position ≡ Err f
term_fails test fault zero term position f h e = absurd (omega arith)
term_fails test fault (suc levels) term position f h e = go_on_err _ _ _ (go_on_err _ _ _ e)

-- ---- lists

again : {A : Type 0} (r : Reading A) → go_on r (λ x position. Ok (x, position)) ≡ r
again (Ok x) = refl
again (Err fault) = refl

-- without elements
pub list_none : (levels term n : ℕ) (position next : Position) → (count levels 4).read term position ≡ Ok (n, next) → n ≡ 0
    → (list_of (part_at levels) (tail_at levels) levels).read term position ≡ no_tail.read term next
list_none levels term n position next e none =
    go_on_ok _ _ _ _ (e ∙ ap (λ k. Ok (k, next)) none) ∙ again (no_tail.read term next)

pub length-list_of : (ts : List TermValue) (tail : TermValue) → elements tail ≡ [] → length (elements (chain ts tail)) ≡ length ts
length-list_of [] tail alone = ap length alone
length-list_of (t ∷ ts) tail alone = ap suc (length-list_of ts tail alone)

pub built_list : (ts : List TermValue) (tail : TermValue) (levels : ℕ) → levels < 256 → length ts < 2 ^ 32 → elements tail ≡ [] → deepest ts ≤ levels
    → depth tail ≤ levels
    → built (length (elements (chain ts tail))) (chain ts tail) ≡ Ok (chain ts tail)
built_list ts tail levels room few alone h k =
    built-within (length (elements (chain ts tail))) (chain ts tail) (rw (length-list_of ts tail alone) few) (omega (arith, depth-list_of ts tail levels h k))

-- what answers want of memory or a value
pub IfErr-either : {A E : Type 0} (r : Result A E) (e : E) (x : A) → (r ≡ Err e) ⊎ (r ≡ Ok x) → IfErr r (λ f. f ≡ e)
IfErr-either (Ok y) e x h = tt
IfErr-either (Err f) e x (inl h) = cc
IfErr-either (Err f) e x (inr h) = cc

pub or_else : {A B C : Type 0} → (B → C) → A ⊎ B → A ⊎ C
or_else f (inl a) = inl a
or_else f (inr b) = inr (f b)

-- ---- tuples

pub depth-tuple_of : (ts : List TermValue) (levels : ℕ) → deepest ts ≤ levels → depth (tuple (chain ts nil)) ≤ suc levels
depth-tuple_of ts levels h = omega (arith, h, parts_depth-chain ts)

pub built_tuple : (ts : List TermValue) (levels : ℕ) → levels < 256 → length ts < 2 ^ 32 → deepest ts ≤ levels
    → built (length ts) (tuple (chain ts nil)) ≡ Ok (tuple (chain ts nil))
built_tuple ts levels room few h = built-within (length ts) (tuple (chain ts nil)) few (omega (arith, depth-tuple_of ts levels h))
