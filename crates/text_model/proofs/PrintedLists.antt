-- A printed tuple and a printed list are their elements, where these are printed so that they are read.
use Rattle.std.proofs.Common.{◌≡◌, ℕ, suc, ◌≤◌, Bool, true, false, cond, List, [], ◌∷◌, ◌++◌, inl, inr, refl, ap, subst, arith}
use Rattle.dets_term.specs.TermValue.{TermValue, nil, cons, chain, elements, is_list, parts_depth, depth}
use Rattle.dets_term.specs.IsTerm.{IsProper, IsBounded}
use Rattle.text_model.specs.declared.mark.Mark.TheVariants.{CloseBrace, CloseList, Bar}
use Rattle.text_model.specs.Token.{Token, mark}
use Rattle.text_model.specs.Grammar.{Behind, Closes, Enclosed, EndsList, InList}
use Rattle.text_model.specs.Printed.{printed, printed_elements, printed_after}
use Rattle.text_model.proofs.PrintedTokens.{Shown, Prints, Follows, shown_as, closes_shown, part_shown, marked_follows, closes_follows, item_follows}

-- terms within the limits and of at most so many levels are printed so
abbrev pub ArePrinted : (TermValue → List Token → List Token → Type 0) → ℕ → Type 0
ArePrinted Part levels = (t : TermValue) → depth t ≤ levels → IsBounded t → Prints (Part t) (printed t)

-- ---- levels

pub rest_low : (is : Bool) (n : ℕ) → n ≤ cond is n (suc n)
rest_low true n = omega arith
rest_low false n = omega arith

-- the depth of what follows the first element of a list
abbrev rest_depth : TermValue → ℕ
rest_depth rest = cond (is_list rest) (parts_depth rest) (suc (parts_depth rest))

-- ---- proper lists

brace_follows : (Part : TermValue → List Token → List Token → Type 0) (levels : ℕ) (v : TermValue) → ArePrinted Part levels → IsProper v
    → IsBounded v → parts_depth v ≤ levels → Follows (Behind Part (Closes CloseBrace) (elements v)) (printed_after (125 ∷ []) v)
brace_follows Part levels nil are proper bounded low = closes_follows CloseBrace (λ rest. refl)
brace_follows Part levels (cons first rest) are proper bounded low =
    item_follows Part (Closes CloseBrace) first (elements rest) (printed first) (printed_after (125 ∷ []) rest) (are first (omega arith) bounded.1)
    (brace_follows Part levels rest are proper bounded.2 (omega (arith, rest_low (is_list rest) (parts_depth rest))))
brace_follows Part levels other are proper bounded low = absurd proper

pub elements_shown : (Part : TermValue → List Token → List Token → Type 0) (levels : ℕ) (v : TermValue) (rest : List ℕ) → ArePrinted Part levels → IsProper v
    → IsBounded v → parts_depth v ≤ levels → Shown (Enclosed Part CloseBrace (elements v)) (printed_elements (125 ∷ []) v) rest
elements_shown Part levels nil rest are proper bounded low = closes_shown CloseBrace rest
elements_shown Part levels (cons first others) rest are proper bounded low =
    part_shown (Part first) (Behind Part (Closes CloseBrace) (elements others)) (Enclosed Part CloseBrace (first ∷ elements others)) (printed first)
    (printed_after (125 ∷ []) others) rest (λ tokens middle behind i more. (middle, i, more)) (are first (omega arith) bounded.1)
    (brace_follows Part levels others are proper bounded.2 (omega (arith, rest_low (is_list others) (parts_depth others))))
elements_shown Part levels other rest are proper bounded low = absurd proper

-- a proper list is of its elements
pub proper_chain : (v : TermValue) → IsProper v → v ≡ chain (elements v) nil
proper_chain nil proper = refl
proper_chain (cons first rest) proper = ap (cons first) (proper_chain rest proper)
proper_chain other proper = absurd proper

-- ---- lists, proper or not

-- what a list ends in
abbrev tail_of : TermValue → TermValue
tail_of (cons first rest) = tail_of rest
tail_of other = other

chain_of : (v : TermValue) → v ≡ chain (elements v) (tail_of v)
chain_of (cons first rest) = ap (cons first) (chain_of rest)
chain_of other = refl

-- a tail that is no list stands behind a bar
tail_follows : (Part : TermValue → List Token → List Token → Type 0) (tail : TermValue) → Prints (Part tail) (printed tail)
    → Follows (EndsList Part tail) (124 ∷ (printed tail ++ 93 ∷ []))
tail_follows Part tail prints =
    marked_follows Bar Both (EndsList Part tail) (printed tail ++ 93 ∷ []) (λ rest. refl) (λ tokens behind p. inr (tokens, refl, p))
    (λ rest. part_shown (Part tail) (Closes CloseList) Both (printed tail) (93 ∷ []) rest (λ tokens middle behind p e. subst (Part tail tokens) e p) prints
    (closes_follows CloseList (λ more. refl)))
  where
    Both : List Token → List Token → Type 0
    Both tokens behind = Part tail tokens (mark CloseList ∷ behind)

bracket_follows : (Part : TermValue → List Token → List Token → Type 0) (levels : ℕ) (v : TermValue) → ArePrinted Part levels → IsBounded v
    → rest_depth v ≤ levels → Follows (Behind Part (EndsList Part (tail_of v)) (elements v)) (printed_after (93 ∷ []) v)
bracket_follows Part levels nil are bounded low = record {
  apart = λ rest. refl;
  shown = λ rest. shown_as (Closes CloseList) (EndsList Part nil) (93 ∷ []) rest (λ tokens behind e. inl (refl, e)) (closes_shown CloseList rest);
}
bracket_follows Part levels (cons first rest) are bounded low =
    item_follows Part (EndsList Part (tail_of rest)) first (elements rest) (printed first) (printed_after (93 ∷ []) rest) (are first (omega arith) bounded.1)
    (bracket_follows Part levels rest are bounded.2 (omega arith))
bracket_follows Part levels other are bounded low = tail_follows Part other (are other low bounded)

pub list_shown : (Part : TermValue → List Token → List Token → Type 0) (levels : ℕ) (first others : TermValue) (rest : List ℕ) → ArePrinted Part levels
    → IsBounded (cons first others) → parts_depth (cons first others) ≤ levels
    → Shown (InList Part (cons first others)) (printed first ++ printed_after (93 ∷ []) others) rest
list_shown Part levels first others rest are bounded low =
    part_shown (Part first) (Behind Part (EndsList Part (tail_of others)) (elements others)) (InList Part (cons first others)) (printed first)
    (printed_after (93 ∷ []) others) rest
    (λ tokens middle behind i more. inr (first ∷ elements others, tail_of others, ap (cons first) (chain_of others), (middle, i, more)))
    (are first (omega arith) bounded.1) (bracket_follows Part levels others are bounded.2 (omega arith))
