-- What a begun term becomes with each of its parts.
use Rattle.std.proofs.Common.{◌≡◌, ℕ, suc, Bool, true, false, cond, not, List, [], ◌∷◌, ◌++◌, Ok, Err, refl, ap, ◌∙◌, sym, append_assoc}
use mathlib.Core.Path.{fun_ext}
use Rattle.std.specs.List.{list_any}
use Rattle.dets_term.specs.TermValue.{TermValue, tuple, nil, chain, map_of}
use Rattle.dets_term.specs.Order.{is_same}
use Rattle.dets_term.specs.Pairs.{keys, placed}
use Rattle.etf_model.specs.declared.fault.EtfFault.TheVariants.{Unsupported, RepeatedKey}
use Rattle.etf_model.specs.Format.{Position, Reading, go_on, followed, changed, times, judged}
use Rattle.etf_model.specs.Layout.{is_known, begins_tail}
use Rattle.etf_model.specs.Spelling.{part_at, tail_at, pairs_after}
use Rattle.etf_codec.specs.declared.frame.Begun.{Begun}
use Rattle.etf_codec.specs.declared.frame.Frame.TheVariants.{Element, Item, Tail, Key, Value}
use Rattle.etf_codec.specs.Machine.{levels_below, map_behind, resume, reading_at}
use Rattle.etf_codec.proofs.GoOn.{go_on_twice, times-first, times-first-followed, whichever_term}

pub part_anywhere : (levels s t : ℕ) (position : Position) → (part_at levels).read s position ≡ (part_at levels).read t position
part_anywhere levels s t position = whichever_term is_known (λ term x. Unsupported term x) levels s t position

pub tail_anywhere : (levels s t : ℕ) (position : Position) → (tail_at levels).read s position ≡ (tail_at levels).read t position
tail_anywhere levels s t position = whichever_term begins_tail (λ term x. Unsupported term x) levels s t position

-- elements behind one more
pushed : (ts : List TermValue) (t : TermValue) (us : List TermValue) → ts ++ t ∷ us ≡ (ts ++ t ∷ []) ++ us
pushed ts t us = sym (append_assoc ts (t ∷ []) us)

-- ---- tuples

-- reading a tuple's elements is reading its first one, with the others to come
pub element_first : (n start : ℕ) (ts : List TermValue) (begun : List Begun) (position : Position)
    → go_on ((changed (times (suc n) (part_at (levels_below (record { start = start; frame = Element n ts } ∷ begun))))
    (λ us. tuple (chain (ts ++ us) nil))).read start position) (λ whole behind. resume begun start whole behind)
    ≡ reading_at (record { start = start; frame = Element n ts } ∷ begun) position
element_first n start ts begun position =
    let levels = levels_below (record { start = start; frame = Element n ts } ∷ begun) in
    times-first (part_at levels) n (λ us. tuple (chain (ts ++ us) nil)) start position (λ whole behind. resume begun start whole behind)
    ∙ ap (λ r. go_on r (λ t b. resume (record { start = start; frame = Element n ts } ∷ begun) position.offset t b))
    (part_anywhere levels start position.offset position)

pub element_more : (n start at : ℕ) (ts : List TermValue) (t : TermValue) (begun : List Begun) (position : Position)
    → resume (record { start = start; frame = Element (suc n) ts } ∷ begun) at t position ≡ reading_at
    (record { start = start; frame = Element n (ts ++ t ∷ []) } ∷ begun) position
element_more n start at ts t begun position =
    let levels = levels_below (record { start = start; frame = Element n ts } ∷ begun) in
    let same : (us : List TermValue) → tuple (chain (ts ++ t ∷ us) nil) ≡ tuple (chain ((ts ++ t ∷ []) ++ us) nil) =
    λ us. ap (λ vs. tuple (chain vs nil)) (pushed ts t us) in
    ap (λ (f : List TermValue → TermValue). go_on ((changed (times (suc n) (part_at levels)) f).read start position)
    (λ whole behind. resume begun start whole behind)) (fun_ext same)
    ∙ element_first n start (ts ++ t ∷ []) begun position

-- ---- lists

pub item_first : (n start : ℕ) (ts : List TermValue) (begun : List Begun) (position : Position)
    → go_on ((followed (times (suc n) (part_at (levels_below (record { start = start; frame = Item n ts } ∷ begun))))
    (λ us. changed (tail_at (levels_below (record { start = start; frame = Item n ts } ∷ begun))) (λ end. chain (ts ++ us) end))).read start position)
    (λ whole behind. resume begun start whole behind)
    ≡ reading_at (record { start = start; frame = Item n ts } ∷ begun) position
item_first n start ts begun position =
    let levels = levels_below (record { start = start; frame = Item n ts } ∷ begun) in
    times-first-followed (part_at levels) n (λ us. changed (tail_at levels) (λ end. chain (ts ++ us) end)) start position
    (λ whole behind. resume begun start whole behind)
    ∙ ap (λ r. go_on r (λ t b. resume (record { start = start; frame = Item n ts } ∷ begun) position.offset t b))
    (part_anywhere levels start position.offset position)

pub item_more : (n start at : ℕ) (ts : List TermValue) (t : TermValue) (begun : List Begun) (position : Position)
    → resume (record { start = start; frame = Item (suc n) ts } ∷ begun) at t position ≡ reading_at
    (record { start = start; frame = Item n (ts ++ t ∷ []) } ∷ begun) position
item_more n start at ts t begun position =
    let levels = levels_below (record { start = start; frame = Item n ts } ∷ begun) in
    let same : (us : List TermValue) → (λ (end : TermValue). chain (ts ++ t ∷ us) end) ≡ (λ (end : TermValue). chain ((ts ++ t ∷ []) ++ us) end)
    = λ us. ap (λ vs (end : TermValue). chain vs end) (pushed ts t us) in
    ap (λ (f : List TermValue → TermValue → TermValue). go_on
    ((followed (times (suc n) (part_at levels)) (λ us. changed (tail_at levels) (f us))).read start position)
    (λ whole behind. resume begun start whole behind))
    (fun_ext same)
    ∙ item_first n start (ts ++ t ∷ []) begun position

pub item_last : (start at : ℕ) (ts : List TermValue) (t : TermValue) (begun : List Begun) (position : Position)
    → resume (record { start = start; frame = Item 0 ts } ∷ begun) at t position ≡ reading_at
    (record { start = start; frame = Tail (ts ++ t ∷ []) } ∷ begun) position
item_last start at ts t begun position =
    let levels = levels_below (record { start = start; frame = Item 0 ts } ∷ begun) in
    go_on_twice ((tail_at levels).read start position) (λ end b. Ok (chain (ts ++ t ∷ []) end, b)) (λ whole behind. resume begun start whole behind)
    ∙ ap (λ r. go_on r (λ end b. resume begun start (chain (ts ++ t ∷ []) end) b)) (tail_anywhere levels start position.offset position)

-- ---- maps

pub key_new : (n start at : ℕ) (pairs : List (TermValue × TermValue)) (k : TermValue) (begun : List Begun) (position : Position)
    → list_any (is_same k) (keys pairs) ≡ false
    → resume (record { start = start; frame = Key n pairs } ∷ begun) at k position ≡ reading_at
    (record { start = start; frame = Value n pairs k } ∷ begun) position
key_new n start at pairs k begun position e =
    let levels = levels_below (record { start = start; frame = Key n pairs } ∷ begun) in
    ap (λ known. go_on (cond (not known) ((followed (part_at levels) (λ v. map_behind levels (placed (k, v) pairs) n)).read start position)
    (Err (RepeatedKey at)))
    (λ whole behind. resume begun start whole behind)) e
    ∙ go_on_twice ((part_at levels).read start position) (λ v b. (map_behind levels (placed (k, v) pairs) n).read start b)
    (λ whole behind. resume begun start whole behind)
    ∙ ap (λ r. go_on r (λ v b. go_on ((map_behind levels (placed (k, v) pairs) n).read start b) (λ whole behind. resume begun start whole behind)))
    (part_anywhere levels start position.offset position)

-- reading the rest of a map is reading its next key
first_key : {A : Type 0} (levels n start : ℕ) (pairs : List (TermValue × TermValue)) (r : Reading TermValue) (offset : ℕ) (R : TermValue → Position → Reading A)
    → go_on (go_on (go_on (go_on r (λ k b. judged (not (list_any (is_same k) (keys pairs))) (RepeatedKey offset) k b))
    (λ k b. (followed (part_at levels) (λ v. pairs_after (part_at levels) (placed (k, v) pairs) n)).read start b)) (λ all b. Ok (map_of all, b))) R
    ≡ go_on r (λ k b. go_on (cond (not (list_any (is_same k) (keys pairs)))
    ((followed (part_at levels) (λ v. map_behind levels (placed (k, v) pairs) n)).read start b) (Err (RepeatedKey offset))) R)
first_key levels n start pairs (Err fault) offset R = refl
first_key {A} levels n start pairs (Ok r) offset R = by (not (list_any (is_same r.0) (keys pairs)))
  where
    by : (new : Bool) → go_on (go_on
        (go_on (judged new (RepeatedKey offset) r.0 r.1)
        (λ k b. (followed (part_at levels) (λ v. pairs_after (part_at levels) (placed (k, v) pairs) n)).read start b)) (λ all b. Ok (map_of all, b))) R
        ≡ go_on (cond new ((followed (part_at levels) (λ v. map_behind levels (placed (r.0, v) pairs) n)).read start r.1) (Err (RepeatedKey offset))) R
    by false = refl
    by true = ap (λ x. go_on x R)
        (go_on_twice ((part_at levels).read start r.1) (λ v b. (pairs_after (part_at levels) (placed (r.0, v) pairs) n).read start b)
        (λ all b. Ok (map_of all, b)))

pub key_first : (n start : ℕ) (pairs : List (TermValue × TermValue)) (begun : List Begun) (position : Position)
    → go_on ((map_behind (levels_below (record { start = start; frame = Key n pairs } ∷ begun)) pairs (suc n)).read start position)
    (λ whole behind. resume begun start whole behind)
    ≡ reading_at (record { start = start; frame = Key n pairs } ∷ begun) position
key_first n start pairs begun position =
    let levels = levels_below (record { start = start; frame = Key n pairs } ∷ begun) in
    first_key levels n start pairs ((part_at levels).read position.offset position) position.offset (λ whole behind. resume begun start whole behind)

pub value_more : (n start at : ℕ) (pairs : List (TermValue × TermValue)) (k v : TermValue) (begun : List Begun) (position : Position)
    → resume (record { start = start; frame = Value (suc n) pairs k } ∷ begun) at v position ≡ reading_at
    (record { start = start; frame = Key n (placed (k, v) pairs) } ∷ begun) position
value_more n start at pairs k v begun position = key_first n start (placed (k, v) pairs) begun position
