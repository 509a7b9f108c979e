-- Pairs by ascending key, where no key stands twice.
use Rattle.std.proofs.Common.{◌≡◌, ℕ, suc, ◌<◌, ◌≤◌, ◌^◌, max, Bool, true, false, cond, ◌&&◌, List, [], ◌∷◌, length, Ok, Err, nat_lt, refl, ap, ◌∙◌, arith}
use Rattle.std.proofs.lemmas.Bool.Decides.{nat_tests}
use Rattle.std.specs.Ordering.{is_lt}
use Rattle.term_model.specs.declared.term_fault.TermFault.TheVariants.{RepeatedKey}
use Rattle.term_model.specs.TermValue.{TermValue, map_of, depth}
use Rattle.term_model.specs.IsTerm.{built}
use Rattle.term_model.specs.Order.{order}
use Rattle.term_model.specs.Pairs.{keys, placed, by_key, repeats, map_built}
use Rattle.dets_term.specs.Parts.{deepest_of_pairs, parts_depth-map_of}
use Rattle.term_model.specs.Limits.{built-within}

placed_lt : (p x : TermValue × TermValue) (xs : List (TermValue × TermValue)) → is_lt (order p.0 x.0) ≡ true → placed p (x ∷ xs) ≡ p ∷ x ∷ xs
placed_lt p x xs e = ap (λ b. cond b (p ∷ x ∷ xs) (x ∷ placed p xs)) e

placed_ge : (p x : TermValue × TermValue) (xs : List (TermValue × TermValue)) → is_lt (order p.0 x.0) ≡ false → placed p (x ∷ xs) ≡ x ∷ placed p xs
placed_ge p x xs e = ap (λ b. cond b (p ∷ x ∷ xs) (x ∷ placed p xs)) e

pub length-placed : (p : TermValue × TermValue) (xs : List (TermValue × TermValue)) → length (placed p xs) ≡ suc (length xs)
length-placed p [] = refl
length-placed p (x ∷ xs) = by (is_lt (order p.0 x.0)) refl (length-placed p xs) where
  by : (b : Bool) → is_lt (order p.0 x.0) ≡ b → length (placed p xs) ≡ suc (length xs) → length (placed p (x ∷ xs)) ≡ suc (suc (length xs))
  by true e rest = ap length (placed_lt p x xs e)
  by false e rest = ap length (placed_ge p x xs e) ∙ ap suc rest

pub deepest-placed : (p : TermValue × TermValue) (xs : List (TermValue × TermValue))
    → deepest_of_pairs (placed p xs) ≡ max (max (depth p.0) (depth p.1)) (deepest_of_pairs xs)
deepest-placed p [] = refl
deepest-placed p (x ∷ xs) = by (is_lt (order p.0 x.0)) refl (deepest-placed p xs) where
  by : (b : Bool) → is_lt (order p.0 x.0) ≡ b → deepest_of_pairs (placed p xs) ≡ max (max (depth p.0) (depth p.1)) (deepest_of_pairs xs)
      → deepest_of_pairs (placed p (x ∷ xs)) ≡ max (max (depth p.0) (depth p.1)) (deepest_of_pairs (x ∷ xs))
  by true e rest = ap deepest_of_pairs (placed_lt p x xs e)
  by false e rest = ap deepest_of_pairs (placed_ge p x xs e) ∙ omega arith

-- ---- what building answers

pub map_built-within : (pairs : List (TermValue × TermValue)) → repeats (keys pairs) ≡ false → by_key pairs ≡ pairs → length pairs < 2 ^ 32
    → depth (map_of pairs) ≤ 256
    → map_built pairs ≡ Ok (map_of pairs)
map_built-within pairs apart in_order few shallow =
    let first : nat_lt (length pairs) (2 ^ 32) ≡ true = grind (arith, nat_tests) in
    ap (λ b. cond (b && repeats (keys pairs)) (Err RepeatedKey) (built (length pairs) (map_of (by_key pairs)))) first
    ∙ ap (λ b. cond b (Err RepeatedKey) (built (length pairs) (map_of (by_key pairs)))) apart
    ∙ ap (λ ps. built (length pairs) (map_of ps)) in_order ∙ built-within (length pairs) (map_of pairs) few shallow

pub depth-map_of : (pairs : List (TermValue × TermValue)) (levels : ℕ) → deepest_of_pairs pairs ≤ levels → depth (map_of pairs) ≤ suc levels
depth-map_of pairs levels h = omega (arith, h, parts_depth-map_of pairs)
