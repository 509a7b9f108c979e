-- A printed map is its pairs, where keys and values are printed so that they are read.
use Rattle.std.proofs.Common.{◌≡◌, ℕ, ◌≤◌, List, [], ◌∷◌, ◌++◌, flat_map, refl, ap, sym, subst, append_assoc, arith}
use Rattle.std.specs.List.{join_by, zip}
use Rattle.dets_term.specs.TermValue.{TermValue, mapping, nil, cons, is_list, parts_depth}
use Rattle.dets_term.specs.IsTerm.{IsProper, IsBounded}
use Rattle.text_model.specs.declared.mark.Mark.TheVariants.{CloseBrace, Arrow}
use Rattle.text_model.specs.Token.{Token, mark}
use Rattle.text_model.specs.Grammar.{strict, Behind, Closes, Enclosed, IsPair, InMap}
use Rattle.text_model.specs.Printed.{printed, printed_each, printed_pair}
use Rattle.text_model.proofs.PrintedTokens.{Shown, Prints, Follows, shown_as, closes_shown, marked, joined_shown, part_shown, closes_follows, item_follows}
use Rattle.text_model.proofs.PrintedLists.{ArePrinted, rest_low}
use Rattle.text_model.proofs.AscendingPairs.{pairs_of, map_of_ascending}

pair_prints : (Part : TermValue → List Token → List Token → Type 0) (k v : TermValue) → Prints (Part k) (printed k) → Prints (Part v) (printed v)
    → Prints (IsPair Part (k, v)) (printed_pair (printed k, printed v))
pair_prints Part k v key value rest apart =
    subst (λ l. Shown (IsPair Part (k, v)) l rest) (sym (append_assoc (printed k) (61 ∷ 62 ∷ []) (printed v)))
    (joined_shown (Part k) Value (IsPair Part (k, v)) (printed k) (61 ∷ 62 ∷ printed v) rest
    (λ tokens middle behind p (next, e, q). (next, subst (Part k tokens) e p, q)) (key (61 ∷ 62 ∷ (printed v ++ rest)) refl)
    (marked Arrow (Part v) Value (printed v) rest (λ tokens behind q. (tokens, refl, q)) (value rest apart)))
  where
    Value : List Token → List Token → Type 0
    Value tokens behind = (next : List Token) × (tokens ≡ mark Arrow ∷ next) × Part v next behind

-- the pairs behind the first one, each with a comma in front
abbrev printed_behind : TermValue → TermValue → List ℕ
printed_behind ks vs = flat_map (λ p. 44 ∷ printed_pair p) (zip (printed_each ks) (printed_each vs)) ++ 125 ∷ []

behind_follows : (Part : TermValue → List Token → List Token → Type 0) (levels : ℕ) (ks vs : TermValue) → ArePrinted Part levels → IsProper ks
    → IsProper vs → IsBounded ks → IsBounded vs → parts_depth ks ≤ levels → parts_depth vs ≤ levels
    → Follows (Behind (IsPair Part) (Closes CloseBrace) (pairs_of ks vs)) (printed_behind ks vs)
behind_follows Part levels nil vs are p q bounded_keys bounded_values low_keys low_values = closes_follows CloseBrace (λ rest. refl)
behind_follows Part levels (cons k ks) nil are p q bounded_keys bounded_values low_keys low_values = closes_follows CloseBrace (λ rest. refl)
behind_follows Part levels (cons k ks) (cons v vs) are p q bounded_keys bounded_values low_keys low_values =
    let same : printed_behind (cons k ks) (cons v vs) ≡ 44 ∷ (printed_pair (printed k, printed v) ++ printed_behind ks vs)
    = ap (λ l. 44 ∷ l)
    (append_assoc (printed_pair (printed k, printed v)) (flat_map (λ r. 44 ∷ printed_pair r) (zip (printed_each ks) (printed_each vs))) (125 ∷ [])) in
    subst (Follows (Behind (IsPair Part) (Closes CloseBrace) ((k, v) ∷ pairs_of ks vs))) (sym same)
    (item_follows (IsPair Part) (Closes CloseBrace) (k, v) (pairs_of ks vs) (printed_pair (printed k, printed v)) (printed_behind ks vs)
    (pair_prints Part k v (are k (omega arith) bounded_keys.1) (are v (omega arith) bounded_values.1))
    (behind_follows Part levels ks vs are p q bounded_keys.2 bounded_values.2 (omega (arith, rest_low (is_list ks) (parts_depth ks)))
    (omega (arith, rest_low (is_list vs) (parts_depth vs)))))
behind_follows Part levels (cons k ks) other are p q bounded_keys bounded_values low_keys low_values = absurd q
behind_follows Part levels other vs are p q bounded_keys bounded_values low_keys low_values = absurd p

pairs_shown : (Part : TermValue → List Token → List Token → Type 0) (levels : ℕ) (ks vs : TermValue) (rest : List ℕ) → ArePrinted Part levels → IsProper ks
    → IsProper vs → IsBounded ks → IsBounded vs → parts_depth ks ≤ levels → parts_depth vs ≤ levels
    → Shown (Enclosed (IsPair Part) CloseBrace (pairs_of ks vs)) (join_by printed_pair (44 ∷ []) (zip (printed_each ks) (printed_each vs)) ++ 125 ∷ []) rest
pairs_shown Part levels nil vs rest are p q bounded_keys bounded_values low_keys low_values = closes_shown CloseBrace rest
pairs_shown Part levels (cons k ks) nil rest are p q bounded_keys bounded_values low_keys low_values = closes_shown CloseBrace rest
pairs_shown Part levels (cons k ks) (cons v vs) rest are p q bounded_keys bounded_values low_keys low_values =
    subst (λ l. Shown (Enclosed (IsPair Part) CloseBrace ((k, v) ∷ pairs_of ks vs)) l rest)
    (sym (append_assoc (printed_pair (printed k, printed v)) (flat_map (λ r. 44 ∷ printed_pair r) (zip (printed_each ks) (printed_each vs))) (125 ∷ [])))
    (part_shown (IsPair Part (k, v)) (Behind (IsPair Part) (Closes CloseBrace) (pairs_of ks vs))
    (Enclosed (IsPair Part) CloseBrace ((k, v) ∷ pairs_of ks vs)) (printed_pair (printed k, printed v)) (printed_behind ks vs) rest
    (λ tokens middle behind i more. (middle, i, more))
    (pair_prints Part k v (are k (omega arith) bounded_keys.1) (are v (omega arith) bounded_values.1))
    (behind_follows Part levels ks vs are p q bounded_keys.2 bounded_values.2 (omega (arith, rest_low (is_list ks) (parts_depth ks)))
    (omega (arith, rest_low (is_list vs) (parts_depth vs)))))
pairs_shown Part levels (cons k ks) other rest are p q bounded_keys bounded_values low_keys low_values = absurd q
pairs_shown Part levels other vs rest are p q bounded_keys bounded_values low_keys low_values = absurd p

pub map_shown : (Part : TermValue → List Token → List Token → Type 0) (levels : ℕ) (ks vs : TermValue) (rest : List ℕ) → ArePrinted Part levels
    → IsBounded (mapping ks vs) → parts_depth (mapping ks vs) ≤ levels
    → Shown (InMap strict Part (mapping ks vs)) (join_by printed_pair (44 ∷ []) (zip (printed_each ks) (printed_each vs)) ++ 125 ∷ []) rest
map_shown Part levels ks vs rest are (p, q, e, ascending, bounded_keys, bounded_values) low =
    let built = map_of_ascending ks vs p q e ascending in
    shown_as (Enclosed (IsPair Part) CloseBrace (pairs_of ks vs)) (InMap strict Part (mapping ks vs)) _ rest
    (λ tokens behind pairs. (pairs_of ks vs, built.0, (λ _. built.1), pairs))
    (pairs_shown Part levels ks vs rest are p q bounded_keys bounded_values (omega arith) (omega arith))
