-- The canonical spelling of lists by the lists of their elements; how many parts terms have, and how deep they are.
use Rattle.std.proofs.Common.{◌≡◌, ℕ, zero, suc, ◌-◌, ◌^◌, ◌<◌, ◌≤◌, true, false, ◌&&◌, max, List, [], ◌∷◌, ◌++◌, length, map, slice_get, Some, refl, ap, ◌∙◌}
use Rattle.std.proofs.Common.{subst, arith}
use Rattle.std.specs.List.{concat, flat_map}
use Rattle.std.proofs.lemmas.Bool.{cond-true, cond-false, and_from, and_left, and_right}
use Rattle.std.proofs.lemmas.List.{length-map}
use Rattle.dets_term.specs.TermValue.{TermValue, integer, atom, tuple, mapping, nil, cons, bits, chain, map_of, elements, is_list, depth}
use Rattle.dets_term.specs.IsTerm.{IsTerm, IsBounded}
use Rattle.dets_term.specs.BitString.{bits_of, MayUse}
use Rattle.dets_term.specs.Parts.{deepest, deepest_of_pairs, elements-chain, elements-improper, parts_depth-chain, parts_depth-map_of, parts_depth-improper}
use Rattle.etf_model.specs.declared.tags.TheConstants.{NIL, STRING, LIST}
use Rattle.etf_model.specs.Canonical.{canonical, canonical_each, canonical_end, head, list_spelling, is_proper, are_bytes, byte_value}
use Rattle.etf_model.specs.CanonicalWholes.{canonical_each-not_list, canonical_end-not_list, length-canonical_each, concat-canonical_each}
use Rattle.etf_codec.proofs.Packing.{length-bytes-le}

-- ---- what a list ends in

is_proper-not_list : (t : TermValue) → is_list t ≡ false → is_proper t ≡ false
is_proper-not_list (integer z) e = refl
is_proper-not_list (atom name) e = refl
is_proper-not_list (tuple parts) e = refl
is_proper-not_list (mapping keys values) e = refl
is_proper-not_list nil e = cc
is_proper-not_list (cons first rest) e = cc
is_proper-not_list (bits bs) e = refl

canonical_end-chain : (ts : List TermValue) (tail : TermValue) → canonical_end (chain ts tail) ≡ canonical_end tail
canonical_end-chain [] tail = refl
canonical_end-chain (t ∷ ts) tail = canonical_end-chain ts tail

is_proper-chain : (ts : List TermValue) (tail : TermValue) → is_proper (chain ts tail) ≡ is_proper tail
is_proper-chain [] tail = refl
is_proper-chain (t ∷ ts) tail = is_proper-chain ts tail

canonical-cons : (ts : List TermValue) (tail : TermValue) → 0 < length ts
    → canonical (chain ts tail) ≡ list_spelling (chain ts tail) (canonical_each (chain ts tail)) (canonical_end (chain ts tail))
canonical-cons [] tail h = absurd (omega arith)
canonical-cons (t ∷ ts) tail h = refl

-- ---- by the list of elements

pub canonical-string : (ts : List TermValue) → 0 < length ts → are_bytes ts ≡ true → canonical (chain ts nil) ≡ head STRING 2 (length ts) ++ map byte_value ts
canonical-string ts h bytes =
    canonical-cons ts nil h
    ∙ cond-true _ _ _ (and_from _ _ (is_proper-chain ts nil) (ap are_bytes (elements-chain ts) ∙ bytes))
    ∙ ap (λ us. head STRING 2 (length us) ++ map byte_value us) (elements-chain ts)

-- by the tag of lists
listed : (ts : List TermValue) (tail : TermValue) → 0 < length ts → canonical_each tail ≡ []
    → (is_proper (chain ts tail) && are_bytes (elements (chain ts tail))) ≡ false
    → canonical (chain ts tail) ≡ head LIST 4 (length ts) ++ (flat_map canonical ts ++ canonical_end tail)
listed ts tail h none other =
    canonical-cons ts tail h
    ∙ cond-false _ _ _ other
    ∙ ap (λ n. head LIST 4 n ++ (concat (canonical_each (chain ts tail)) ++ canonical_end (chain ts tail))) (length-canonical_each ts tail none)
    ∙ ap (λ bytes. head LIST 4 (length ts) ++ (bytes ++ canonical_end (chain ts tail))) (concat-canonical_each ts tail none)
    ∙ ap (λ bytes. head LIST 4 (length ts) ++ (flat_map canonical ts ++ bytes)) (canonical_end-chain ts tail)

pub canonical-list : (ts : List TermValue) → 0 < length ts → are_bytes ts ≡ false
    → canonical (chain ts nil) ≡ head LIST 4 (length ts) ++ (flat_map canonical ts ++ NIL ∷ [])
canonical-list ts h other = listed ts nil h refl (and_right _ _ (ap are_bytes (elements-chain ts) ∙ other))

pub canonical-improper : (ts : List TermValue) (tail : TermValue) → 0 < length ts → is_list tail ≡ false
    → canonical (chain ts tail) ≡ head LIST 4 (length ts) ++ (flat_map canonical ts ++ canonical tail)
canonical-improper ts tail h e =
    listed ts tail h (canonical_each-not_list tail e) (and_left _ _ (is_proper-chain ts tail ∙ is_proper-not_list tail e))
    ∙ ap (λ bytes. head LIST 4 (length ts) ++ (flat_map canonical ts ++ bytes)) (canonical_end-not_list tail e)

-- ---- how many parts there are

bounded-chain : (ts : List TermValue) (tail : TermValue) → elements (chain ts tail) ≡ ts → IsBounded (chain ts tail) → length ts < 2 ^ 32
bounded-chain [] tail e b = omega arith
bounded-chain (t ∷ ts) tail e b = let size = ap length e in let h = b.0 in omega arith

pub tuple-fits : (t : TermValue) (ts : List TermValue) → t ≡ tuple (chain ts nil) → IsTerm t → length ts < 2 ^ 32
tuple-fits t ts e term = bounded-chain ts nil (elements-chain ts) (subst IsTerm e term).bounded.1

pub list-fits : (t : TermValue) (ts : List TermValue) → t ≡ chain ts nil → IsTerm t → length ts < 2 ^ 32
list-fits t ts e term = bounded-chain ts nil (elements-chain ts) (subst IsTerm e term).bounded

pub improper-fits : (t : TermValue) (ts : List TermValue) (tail : TermValue) → is_list tail ≡ false → t ≡ chain ts tail → IsTerm t → length ts < 2 ^ 32
improper-fits t ts tail other e term = bounded-chain ts tail (elements-improper ts tail other) (subst IsTerm e term).bounded

pub map-fits : (t : TermValue) (ps : List (TermValue × TermValue)) → t ≡ map_of ps → IsTerm t → length ps < 2 ^ 32
map-fits t ps e term =
    let keys = bounded-chain (map (λ p. p.0) ps) nil (elements-chain (map (λ p. p.0) ps)) (subst IsTerm e term).bounded.4 in
    let size = length-map ps (λ p. p.0) in
    omega arith

pub bits-fit : (t : TermValue) (bytes : List ℕ) (used : ℕ) → MayUse bytes used → t ≡ bits (bits_of bytes used) → IsTerm t → length bytes < 2 ^ 32
bits-fit t bytes used may e term =
    let size : length bytes ≤ 2 ^ 32 - 1 = length-bytes-le bytes used (2 ^ 32 - 1) may.0 may.1 (subst IsTerm e term).bounded in
    omega arith

-- ---- how deep they are

pub tuple-falls : (t : TermValue) (ts : List TermValue) → t ≡ tuple (chain ts nil) → depth t ≡ suc (deepest ts)
tuple-falls t ts e = ap depth e ∙ ap suc (parts_depth-chain ts)

pub list-falls : (t : TermValue) (ts : List TermValue) → t ≡ chain ts nil → depth t ≡ suc (deepest ts)
list-falls t ts e = ap depth e ∙ ap suc (parts_depth-chain ts)

pub map-falls : (t : TermValue) (ps : List (TermValue × TermValue)) → t ≡ map_of ps → depth t ≡ suc (deepest_of_pairs ps)
map-falls t ps e = ap depth e ∙ ap suc (parts_depth-map_of ps)

pub improper-falls : (t : TermValue) (ts : List TermValue) (tail : TermValue) → 0 < length ts → is_list tail ≡ false → t ≡ chain ts tail
    → depth t ≡ suc (max (deepest ts) (depth tail))
improper-falls t ts tail h other e = ap depth e ∙ ap suc (parts_depth-improper ts tail h other)

-- no key and no value is deeper than the deepest
pub pair-falls : (ps : List (TermValue × TermValue)) (n : ℕ) (p : TermValue × TermValue) → slice_get ps n ≡ Some p
    → (depth p.0 ≤ deepest_of_pairs ps) × (depth p.1 ≤ deepest_of_pairs ps)
pair-falls [] n p e = cc
pair-falls (q ∷ ps) zero p e =
    let same : q ≡ p = cc in
    let key : depth q.0 ≡ depth p.0 = ap (λ (r : TermValue × TermValue). depth r.0) same in
    let value : depth q.1 ≡ depth p.1 = ap (λ (r : TermValue × TermValue). depth r.1) same in
    (omega arith, omega arith)
pair-falls (q ∷ ps) (suc n) p e = let rest = pair-falls ps n p e in (omega arith, omega arith)
