-- What is left to print of a list's elements from a place on, and how deep an element is.
use Rattle.std.proofs.Common.{◌≡◌, ℕ, zero, suc, ◌+◌, ◌*◌, ◌<◌, ◌≤◌, false, List, [], ◌∷◌, ◌++◌, map, length, Some, None, slice_get, flat_map, refl}
use Rattle.std.proofs.Common.{ap, ◌∙◌, sym, append_assoc, arith}
use Rattle.std.specs.List.{join_by, zip}
use Rattle.dets_term.specs.TermValue.{TermValue, integer, atom, tuple, mapping, nil, cons, bits, chain, map_of, is_list, parts_depth, depth}
use Rattle.dets_term.specs.Parts.{deepest, deepest_of_pairs, parts_depth-chain, parts_depth-map_of, parts_depth-improper}
use Rattle.text_model.specs.Printed.{printed_pair, printed, printed_elements, printed_after, printed_each}

-- what is left after the first element, from the place after it on
abbrev pub left_after : List ℕ → ℕ → List TermValue → List ℕ
left_after closing zero ts = printed_after closing (chain ts nil)
left_after closing (suc n) [] = closing
left_after closing (suc n) (t ∷ ts) = left_after closing n ts

-- what is left from a place on
abbrev pub left_from : List ℕ → ℕ → List TermValue → List ℕ
left_from closing zero ts = printed_elements closing (chain ts nil)
left_from closing (suc n) [] = closing
left_from closing (suc n) (t ∷ ts) = left_after closing n ts

left_after-step : (closing : List ℕ) (n : ℕ) (ts : List TermValue) (part : TermValue) → slice_get ts n ≡ Some part
    → left_after closing n ts ≡ 44 ∷ (printed part ++ left_after closing (suc n) ts)
left_after-step closing n [] part e = cc
left_after-step closing zero (t ∷ ts) part e =
    let same : t ≡ part = cc in ap (λ p. 44 ∷ (printed p ++ printed_after closing (chain ts nil))) same
left_after-step closing (suc n) (t ∷ ts) part e = left_after-step closing n ts part e

left_from-first : (closing : List ℕ) (ts : List TermValue) (part : TermValue) → slice_get ts 0 ≡ Some part
    → left_from closing 0 ts ≡ printed part ++ left_from closing 1 ts
left_from-first closing [] part e = cc
left_from-first closing (t ∷ ts) part e =
    let same : t ≡ part = cc in ap (λ p. printed p ++ printed_after closing (chain ts nil)) same

left_from-suc : (closing : List ℕ) (n : ℕ) (ts : List TermValue) (part : TermValue) → slice_get ts (suc n) ≡ Some part
    → left_from closing (suc n) ts ≡ 44 ∷ (printed part ++ left_from closing (suc (suc n)) ts)
left_from-suc closing n [] part e = cc
left_from-suc closing n (t ∷ ts) part e = left_after-step closing n ts part e

left_from-next : (closing : List ℕ) (n : ℕ) (ts : List TermValue) (part : TermValue) → 0 < n → slice_get ts n ≡ Some part
    → left_from closing n ts ≡ 44 ∷ (printed part ++ left_from closing (n + 1) ts)
left_from-next closing zero ts part h e = absurd (omega arith)
left_from-next closing (suc n) ts part h e =
    let more : suc n + 1 ≡ suc (suc n) = omega arith in rw more (left_from-suc closing n ts part e)

left_after-end : (closing : List ℕ) (n : ℕ) (ts : List TermValue) → length ts ≤ n → left_after closing n ts ≡ closing
left_after-end closing zero [] h = refl
left_after-end closing zero (t ∷ ts) h = absurd (omega arith)
left_after-end closing (suc n) [] h = refl
left_after-end closing (suc n) (t ∷ ts) h = left_after-end closing n ts (omega arith)

-- past the last place the closing bracket is left
pub left_from-end : (closing : List ℕ) (n : ℕ) (ts : List TermValue) → length ts ≤ n → left_from closing n ts ≡ closing
left_from-end closing zero [] h = refl
left_from-end closing zero (t ∷ ts) h = absurd (omega arith)
left_from-end closing (suc n) [] h = refl
left_from-end closing (suc n) (t ∷ ts) h = left_after-end closing n ts (omega arith)

-- a tuple or a list is deeper than its elements
pub elements_fall : (t : TermValue) (parts : List TermValue) → parts_depth t ≡ parts_depth (chain parts nil) → 2 * deepest parts + 1 < 2 * depth t
elements_fall t parts e = let d : depth t ≡ suc (deepest parts) = ap suc (e ∙ parts_depth-chain parts) in omega arith

-- a list is printed as its elements in brackets
pub printed-list : (ts : List TermValue) → printed (chain ts nil) ≡ 91 ∷ printed_elements (93 ∷ []) (chain ts nil)
printed-list [] = refl
printed-list (t ∷ ts) = refl

-- an element is printed: the first one, and with a comma each one after it
pub first_printed : (closing out mid new : List ℕ) (n : ℕ) (ts : List TermValue) (part : TermValue) → n ≡ 0 → slice_get ts n ≡ Some part → mid ≡ out
    → new ≡ mid ++ printed part → new ++ left_from closing (n + 1) ts ≡ out ++ left_from closing n ts
first_printed closing out mid new zero ts part z e m h =
    ap (λ bytes. bytes ++ left_from closing 1 ts) (h ∙ ap (λ bytes. bytes ++ printed part) m)
    ∙ append_assoc out (printed part) (left_from closing 1 ts)
    ∙ ap (λ bytes. out ++ bytes) (sym (left_from-first closing ts part e))
first_printed closing out mid new (suc n) ts part z e m h = absurd (omega arith)

pub next_printed : (closing out mid new : List ℕ) (n : ℕ) (ts : List TermValue) (part : TermValue) → 0 < n → slice_get ts n ≡ Some part → mid ≡ out ++ 44 ∷ []
    → new ≡ mid ++ printed part → new ++ left_from closing (n + 1) ts ≡ out ++ left_from closing n ts
next_printed closing out mid new n ts part z e m h =
    ap (λ bytes. bytes ++ left_from closing (n + 1) ts) (h ∙ ap (λ bytes. bytes ++ printed part) m)
    ∙ append_assoc (out ++ 44 ∷ []) (printed part) (left_from closing (n + 1) ts)
    ∙ append_assoc out (44 ∷ []) (printed part ++ left_from closing (n + 1) ts)
    ∙ ap (λ bytes. out ++ bytes) (sym (left_from-next closing n ts part z e))

-- there is an element at each place below the length
pub element_within : {X : Type 0} (ts : List X) (n : ℕ) → n < length ts → slice_get ts n ≡ None → ⊥
element_within [] n h e = omega arith
element_within (t ∷ ts) zero h e = cc
element_within (t ∷ ts) (suc n) h e = element_within ts n (omega arith) e

-- ---- improper lists

after_bar : (end : List ℕ) (tail : TermValue) → is_list tail ≡ false → printed_after end tail ≡ 124 ∷ (printed tail ++ end)
after_bar end (integer z) e = refl
after_bar end (atom name) e = refl
after_bar end (tuple parts) e = refl
after_bar end (mapping keys values) e = refl
after_bar end nil e = cc
after_bar end (cons first rest) e = cc
after_bar end (bits bs) e = refl

after_elements : (ts : List TermValue) (tail : TermValue) → is_list tail ≡ false
    → printed_after (93 ∷ []) (chain ts tail) ≡ printed_after (124 ∷ []) (chain ts nil) ++ (printed tail ++ 93 ∷ [])
after_elements [] tail e = after_bar (93 ∷ []) tail e
after_elements (t ∷ ts) tail e =
    ap (λ l. 44 ∷ (printed t ++ l)) (after_elements ts tail e)
    ∙ ap (λ l. 44 ∷ l) (sym (append_assoc (printed t) (printed_after (124 ∷ []) (chain ts nil)) (printed tail ++ 93 ∷ [])))

-- an improper list is printed as its elements, a bar and its tail in brackets
pub printed-improper : (ts : List TermValue) (tail : TermValue) → 0 < length ts → is_list tail ≡ false
    → printed (chain ts tail) ≡ 91 ∷ (printed_elements (124 ∷ []) (chain ts nil) ++ (printed tail ++ 93 ∷ []))
printed-improper [] tail some e = absurd (omega arith)
printed-improper (t ∷ ts) tail some e =
    ap (λ l. 91 ∷ (printed t ++ l)) (after_elements ts tail e)
    ∙ ap (λ l. 91 ∷ l) (sym (append_assoc (printed t) (printed_after (124 ∷ []) (chain ts nil)) (printed tail ++ 93 ∷ [])))

-- an improper list is deeper than its elements and its tail
pub improper_falls : (t : TermValue) (ts : List TermValue) (tail : TermValue) → t ≡ chain ts tail → 0 < length ts → is_list tail ≡ false
    → (2 * deepest ts + 1 < 2 * depth t) × (2 * depth tail < 2 * depth t)
improper_falls t ts tail e some other =
    let d : parts_depth t ≡ parts_depth (chain ts tail) = ap parts_depth e in
    let both = parts_depth-improper ts tail some other in
    (omega arith, omega arith)

-- ---- maps

-- a pair of a map
abbrev pub printed_entry : TermValue × TermValue → List ℕ
printed_entry pair = (printed pair.0 ++ 61 ∷ 62 ∷ []) ++ printed pair.1

each-chain : (ts : List TermValue) → printed_each (chain ts nil) ≡ map printed ts
each-chain [] = refl
each-chain (t ∷ ts) = ap (λ l. printed t ∷ l) (each-chain ts)

entries_behind : (ps : List (TermValue × TermValue)) → flat_map (λ p. 44 ∷ printed_pair p)
    (zip (map printed (map (λ p. p.0) ps)) (map printed (map (λ p. p.1) ps))) ≡ flat_map (λ p. 44 ∷ printed_entry p) ps
entries_behind [] = refl
entries_behind (p ∷ ps) = ap (λ l. 44 ∷ (printed_entry p ++ l)) (entries_behind ps)

joined_entries : (ps : List (TermValue × TermValue)) → join_by printed_pair (44 ∷ [])
    (zip (map printed (map (λ p. p.0) ps)) (map printed (map (λ p. p.1) ps))) ≡ join_by printed_entry (44 ∷ []) ps
joined_entries [] = refl
joined_entries (p ∷ ps) = ap (λ l. printed_entry p ++ l) (entries_behind ps)

-- a map is printed as its pairs in braces
pub printed-map : (ps : List (TermValue × TermValue)) → printed (map_of ps) ≡ 35 ∷ 123 ∷ (join_by printed_entry (44 ∷ []) ps ++ 125 ∷ [])
printed-map ps =
    ap (λ ks. 35 ∷ 123 ∷ (join_by printed_pair (44 ∷ []) (zip ks (printed_each (chain (map (λ p. p.1) ps) nil))) ++ 125 ∷ [])) (each-chain (map (λ p. p.0) ps))
    ∙ ap (λ vs. 35 ∷ 123 ∷ (join_by printed_pair (44 ∷ []) (zip (map printed (map (λ p. p.0) ps)) vs) ++ 125 ∷ [])) (each-chain (map (λ p. p.1) ps))
    ∙ ap (λ l. 35 ∷ 123 ∷ (l ++ 125 ∷ [])) (joined_entries ps)

pub entry_printed : (mid first bar new : List ℕ) (p : TermValue × TermValue) → first ≡ mid ++ printed p.0 → bar ≡ first ++ 61 ∷ 62 ∷ []
    → new ≡ bar ++ printed p.1 → new ≡ mid ++ printed_entry p
entry_printed mid first bar new p e f g =
    g ∙ ap (λ l. l ++ printed p.1) (f ∙ ap (λ l. l ++ 61 ∷ 62 ∷ []) e ∙ append_assoc mid (printed p.0) (61 ∷ 62 ∷ []))
    ∙ append_assoc mid (printed p.0 ++ 61 ∷ 62 ∷ []) (printed p.1)

-- a map is deeper than its keys and values
pub map_falls : (t : TermValue) (ps : List (TermValue × TermValue)) → t ≡ map_of ps → 2 * deepest_of_pairs ps + 1 < 2 * depth t
map_falls t ps e = let d : depth t ≡ suc (deepest_of_pairs ps) = ap suc (ap parts_depth e ∙ parts_depth-map_of ps) in omega arith

pub pair_falls : (ps : List (TermValue × TermValue)) (n : ℕ) (p : TermValue × TermValue) → slice_get ps n ≡ Some p
    → (2 * depth p.0 < 2 * deepest_of_pairs ps + 1) × (2 * depth p.1 < 2 * deepest_of_pairs ps + 1)
pair_falls [] n p e = cc
pair_falls (q ∷ ps) zero p e =
    let same : q ≡ p = cc in
    let keys : depth q.0 ≡ depth p.0 = ap (λ (r : TermValue × TermValue). depth r.0) same in
    let values : depth q.1 ≡ depth p.1 = ap (λ (r : TermValue × TermValue). depth r.1) same in
    (omega arith, omega arith)
pair_falls (q ∷ ps) (suc n) p e = let rest = pair_falls ps n p e in (omega arith, omega arith)
