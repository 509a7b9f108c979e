-- Lists that are joined, and what a list that ends in a tail is.
use Rattle.std.proofs.Common.{◌≡◌, ℕ, ◌*◌, ◌<◌, ◌≤◌, ◌^◌, false, max, Ok, List, [], ◌∷◌, ◌++◌, length, length-append, length-take, refl, ap, ◌∙◌, sym, arith}
use Rattle.term_model.specs.TermValue.{TermValue, integer, atom, tuple, mapping, nil, cons, bits, chain, elements, is_list}
use Rattle.term_model.specs.IsTerm.{IsTerm, IsBounded, built}
use Rattle.term_model.specs.Limits.{built-within}
use Rattle.term_model.specs.BitString.{byte_bits, bits_of}
use Rattle.dets_term.specs.Parts.{deepest, AreTerms, elements-improper}

pub deepest-append : (ts us : List TermValue) → deepest (ts ++ us) ≡ max (deepest ts) (deepest us)
deepest-append [] us = omega arith
deepest-append (t ∷ ts) us = let rest = deepest-append ts us in omega arith

pub AreTerms-append : (ts us : List TermValue) → AreTerms ts → AreTerms us → AreTerms (ts ++ us)
AreTerms-append [] us p q = q
AreTerms-append (t ∷ ts) us p q = (p.0, AreTerms-append ts us p.1 q)

pub chain-append : (ts us : List TermValue) (tail : TermValue) → chain (ts ++ us) tail ≡ chain ts (chain us tail)
chain-append [] us tail = refl
chain-append (t ∷ ts) us tail = ap (cons t) (chain-append ts us tail)

-- fewer than 2 ^ 32 terms in front of a tail that is no list make a list within the limits
pub IsBounded-improper : (ts : List TermValue) (tail : TermValue) → length ts < 2 ^ 32 → is_list tail ≡ false → AreTerms ts → IsTerm tail
    → IsBounded (chain ts tail)
IsBounded-improper [] tail short e terms term = term.bounded
IsBounded-improper (t ∷ ts) tail short e terms term =
    let size : length (elements (chain (t ∷ ts) tail)) ≡ length (t ∷ ts) = ap length (elements-improper (t ∷ ts) tail e) in
    (omega arith, terms.0.bounded, IsBounded-improper ts tail (omega arith) e terms.1 term)

few_elements : (t : TermValue) → IsBounded t → length (elements t) < 2 ^ 32
few_elements (integer z) b = omega arith
few_elements (atom name) b = omega arith
few_elements (tuple parts) b = omega arith
few_elements (mapping keys values) b = omega arith
few_elements nil b = omega arith
few_elements (cons first rest) b = b.0
few_elements (bits bs) b = omega arith

-- a term is what building it answers
pub built-term : (t : TermValue) → IsTerm t → Ok t ≡ built (length (elements t)) t
built-term t term = sym (built-within (length (elements t)) t (few_elements t term.bounded) term.shallow)

elements-end : (ts : List TermValue) (last : TermValue) → elements last ≡ [] → elements (chain ts last) ≡ ts
elements-end [] last none = none
elements-end (t ∷ ts) last none = ap (λ us. t ∷ us) (elements-end ts last none)

-- building a list of terms in front of a list is building a list of both
pub built-joined : (ts us both : List TermValue) (last end tail : TermValue) → both ≡ ts ++ us → end ≡ last → tail ≡ chain us last
    → elements last ≡ [] → built (length both) (chain both end) ≡ built (length (elements (chain ts tail))) (chain ts tail)
built-joined ts us both last end tail b l e none =
    let whole : chain both end ≡ chain ts tail = ap (λ vs. chain vs end) b ∙ chain-append ts us end ∙ ap (λ t. chain ts (chain us t)) l
    ∙ ap (chain ts) (sym e) in
    let ended : elements end ≡ [] = ap elements l ∙ none in
    let size : length both ≡ length (elements (chain ts tail)) = ap length (sym (elements-end both end ended)) ∙ ap (λ t. length (elements t)) whole in
    ap (λ n. built n (chain both end)) size ∙ ap (built (length (elements (chain ts tail)))) whole

-- and so it is in front of a tail that is no list
pub built-ended : (ts : List TermValue) (tail : TermValue) → is_list tail ≡ false
    → built (length ts) (chain ts tail) ≡ built (length (elements (chain ts tail))) (chain ts tail)
built-ended ts tail e = ap (λ us. built (length us) (chain ts tail)) (sym (elements-improper ts tail e))

-- no terms in front of a tail are the tail
pub built-none : (ts : List TermValue) (tail : TermValue) → length ts ≡ 0 → IsTerm tail → Ok tail ≡ built (length (elements (chain ts tail))) (chain ts tail)
built-none [] tail e term = built-term tail term
built-none (t ∷ ts) tail e term = absurd (omega arith)

-- a byte has at most eight bits
pub length-bits_of : (bytes : List ℕ) (used : ℕ) → length (bits_of bytes used) ≤ 8 * length bytes
length-bits_of [] used = omega arith
length-bits_of (x ∷ []) used = omega (arith, length-take used (byte_bits x))
length-bits_of (x ∷ y ∷ bytes) used =
    let rest = length-bits_of (y ∷ bytes) used in omega (arith, length-append (byte_bits x) (bits_of (y ∷ bytes) used))
