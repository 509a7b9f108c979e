-- Lemmas: parts of canonical spellings, and those of tuples and maps by the lists of their parts.
use Rattle.std.proofs.Common.{◌≡◌, ℕ, suc, ◌<◌, ◌≤◌, false, List, [], ◌∷◌, ◌++◌, length, map, refl, ap, ◌∙◌, arith}
use Rattle.std.specs.List.{concat, flat_map, zip}
use Rattle.std.proofs.lemmas.Bool.{cond-false}
use Rattle.std.proofs.lemmas.List.{length-map}
use Rattle.std.proofs.Common.{◌≡◌, ℕ, suc, ◌+◌, ◌*◌, ◌<◌, ◌≤◌, false, List, [], ◌∷◌, ◌++◌, length, refl, ap, ◌∙◌, arith}
use Rattle.std.specs.Str.{encode_utf8_all}
use lib.Utf8.{encode}
use Rattle.std.proofs.lemmas.Bool.{cond-false}
use Rattle.std.proofs.lemmas.List.{length-append}
use Rattle.std.proofs.lemmas.Str.{length-encode, len_utf8_bounds}
use Rattle.std.proofs.Common.{◌≡◌, ℕ, suc, ◌+◌, ◌*◌, ◌/◌, ◌%◌, ◌<◌, ◌≤◌, eqb, [], ◌∷◌, length, refl, ap, ◌∙◌, arith}
use Rattle.std.proofs.lemmas.Bool.{cond-false, ne_eqb}
use Rattle.dets_term.specs.TermValue.{TermValue, integer, atom, tuple, mapping, nil, cons, bits, chain, map_of, is_list}
use Rattle.dets_term.specs.TermValue.{TermValue}
use Rattle.etf_model.specs.declared.tags.TheConstants.{MAP}
use Rattle.etf_model.specs.Canonical.{canonical, canonical_each, canonical_end, head, tuple_head}
use Rattle.etf_model.specs.Canonical.{low_bytes}

-- ---- magnitudes and characters

pub low_bytes-more : (most m : ℕ) → 0 < m → low_bytes (suc most) m ≡ m % 256 ∷ low_bytes most (m / 256)
low_bytes-more most m h = cond-false (eqb m 0) [] (m % 256 ∷ low_bytes most (m / 256)) (ne_eqb m 0 (λ e. omega arith))

pub length-encodes-le : (cs : List ℕ) → length (encode_utf8_all cs) ≤ 4 * length cs
length-encodes-le [] = omega arith
length-encodes-le (c ∷ cs) =
    let first = length-encode c in
    let bounds = len_utf8_bounds c in
    let both : length (encode_utf8_all (c ∷ cs)) ≡ length (encode c) + length (encode_utf8_all cs) = length-append (encode c) (encode_utf8_all cs) in
    omega (arith, length-encodes-le cs)

-- ---- what a list ends in

pub canonical_each-not_list : (t : TermValue) → is_list t ≡ false → canonical_each t ≡ []
canonical_each-not_list (integer z) e = refl
canonical_each-not_list (atom name) e = refl
canonical_each-not_list (tuple parts) e = refl
canonical_each-not_list (mapping keys values) e = refl
canonical_each-not_list nil e = cc
canonical_each-not_list (cons first rest) e = cc
canonical_each-not_list (bits bs) e = refl

pub canonical_end-not_list : (t : TermValue) → is_list t ≡ false → canonical_end t ≡ canonical t
canonical_end-not_list (integer z) e = refl
canonical_end-not_list (atom name) e = refl
canonical_end-not_list (tuple parts) e = refl
canonical_end-not_list (mapping keys values) e = refl
canonical_end-not_list nil e = cc
canonical_end-not_list (cons first rest) e = cc
canonical_end-not_list (bits bs) e = refl

-- ---- the elements of a list

pub length-canonical_each : (ts : List TermValue) (tail : TermValue) → canonical_each tail ≡ [] → length (canonical_each (chain ts tail)) ≡ length ts
length-canonical_each [] tail e = ap length e
length-canonical_each (t ∷ ts) tail e = ap suc (length-canonical_each ts tail e)

pub concat-canonical_each : (ts : List TermValue) (tail : TermValue) → canonical_each tail ≡ []
    → concat (canonical_each (chain ts tail)) ≡ flat_map canonical ts
concat-canonical_each [] tail e = ap concat e
concat-canonical_each (t ∷ ts) tail e = ap (λ bytes. canonical t ++ bytes) (concat-canonical_each ts tail e)

-- ---- by the list of parts

pub canonical-tuple : (ts : List TermValue) → canonical (tuple (chain ts nil)) ≡ tuple_head (length ts) ++ flat_map canonical ts
canonical-tuple ts =
    ap (λ n. tuple_head n ++ concat (canonical_each (chain ts nil))) (length-canonical_each ts nil refl)
    ∙ ap (λ bytes. tuple_head (length ts) ++ bytes) (concat-canonical_each ts nil refl)

pairs-in_turn : (ps : List (TermValue × TermValue)) →
    flat_map (λ p. p.0 ++ p.1) (zip (canonical_each (chain (map (λ p. p.0) ps) nil)) (canonical_each (chain (map (λ p. p.1) ps) nil)))
    ≡ flat_map (λ p. canonical p.0 ++ canonical p.1) ps
pairs-in_turn [] = refl
pairs-in_turn (p ∷ ps) = ap (λ bytes. canonical p.0 ++ canonical p.1 ++ bytes) (pairs-in_turn ps)

pub canonical-map : (ps : List (TermValue × TermValue)) → canonical (map_of ps) ≡ head MAP 4 (length ps) ++ flat_map (λ p. canonical p.0 ++ canonical p.1) ps
canonical-map ps =
    ap (λ n. head MAP 4 n ++ flat_map (λ p. p.0 ++ p.1) (zip (canonical_each (chain (map (λ p. p.0) ps) nil)) (canonical_each (chain (map (λ p. p.1) ps) nil))))
    (length-canonical_each (map (λ p. p.0) ps) nil refl ∙ length-map ps (λ p. p.0))
    ∙ ap (λ bytes. head MAP 4 (length ps) ++ bytes) (pairs-in_turn ps)
