-- What building a map of sorted pairs answers.
use Rattle.std.proofs.Common.{◌≡◌, ℕ, suc, ◌<◌, ◌≤◌, ◌^◌, true, false, ◌&&◌, cond, nat_lt, nat_le, Ok, Err, List, ◌⊎◌, inl, inr, length, ap, ◌∙◌, sym, arith}
use Rattle.std.specs.List.Sorted.{IsPermutation}
use Rattle.std.proofs.lemmas.Bool.{lt-ltb, le-ltb, and_right, and_left, cases_lt}
use Rattle.term_model.specs.declared.term_fault.TermFault.{TermFault}
use Rattle.term_model.specs.declared.term_fault.TermFault.TheVariants.{Depth, ManyParts, RepeatedKey}
use Rattle.term_model.specs.TermValue.{TermValue, map_of, parts_depth}
use Rattle.term_model.specs.IsTerm.{AreAscending, limited, built}
use Rattle.term_model.specs.Pairs.{keys, by_key, repeats, map_built}
use Rattle.dets_term.proofs.Limited.{limited_ok, built_ok, built_err}
use Rattle.term_model.specs.PairSorts.{ascending_is_by_key}

abbrev Pair : Type 0
Pair = TermValue × TermValue

pub map_repeated : (ps : List Pair) → length ps < 2 ^ 32 → repeats (keys ps) ≡ true → Err RepeatedKey ≡ map_built ps
map_repeated ps few e =
    sym (
    ap (λ b. cond (b && repeats (keys ps)) (Err RepeatedKey) (built (length ps) (map_of (by_key ps)))) (lt-ltb (length ps) (2 ^ 32) few)
    ∙ ap (λ b. cond b (Err RepeatedKey) (built (length ps) (map_of (by_key ps)))) e
    )

-- where no key is repeated
map_distinct : (ps qs : List Pair) → repeats (keys ps) ≡ false → by_key ps ≡ qs → built (length ps) (map_of qs) ≡ map_built ps
map_distinct ps qs e s =
    ap (λ rs. built (length ps) (map_of rs)) (sym s)
    ∙ sym (ap (λ b. cond b (Err RepeatedKey) (built (length ps) (map_of (by_key ps)))) (and_right (nat_lt (length ps) (2 ^ 32)) (repeats (keys ps)) e))

many_parts : {A : Type 0} (n levels : ℕ) (x : A) → 2 ^ 32 ≤ n → limited n levels x ≡ Err ManyParts
many_parts n levels x many = ap (λ b. cond b (cond (nat_le levels 256) (Ok x) (Err Depth)) (Err ManyParts)) (le-ltb n (2 ^ 32) many)

map_many : (ps : List Pair) → 2 ^ 32 ≤ length ps → Err ManyParts ≡ map_built ps
map_many ps many =
    sym (
    ap (λ b. cond b (Err RepeatedKey) (built (length ps) (map_of (by_key ps))))
    (and_left (nat_lt (length ps) (2 ^ 32)) (repeats (keys ps)) (le-ltb (length ps) (2 ^ 32) many))
    ∙ many_parts (length ps) _ _ many
    )

-- sorted pairs whose keys ascend, unless they are too many
module _ (ps qs : List Pair) (moved : IsPermutation ps qs) (ascend : length ps < 2 ^ 32 → AreAscending (keys qs)) (d : ℕ)
    (depth : parts_depth (map_of qs) ≡ d) where
  pub map_ok : (n levels : ℕ) → n ≡ length ps → Ok levels ≡ limited n (suc d) (suc d) → Ok (map_of qs) ≡ map_built ps
  map_ok n levels size h =
      let few = limited_ok n (suc d) (suc d) levels (sym h) in
      let by = ascending_is_by_key ps qs moved (ascend (omega (arith, few.0))) in
      built_ok n levels d (map_of qs) depth h ∙ ap (λ m. built m (map_of qs)) size ∙ map_distinct ps qs by.0 by.1

  pub map_err : (n : ℕ) (f : TermFault) → n ≡ length ps → Err f ≡ limited n (suc d) (suc d) → Err f ≡ map_built ps
  map_err n f size h = by_size n f size h (cases_lt (length ps) (2 ^ 32))
    where
      by_size : (n : ℕ) (f : TermFault) → n ≡ length ps → Err f ≡ limited n (suc d) (suc d) → (length ps < 2 ^ 32) ⊎ (2 ^ 32 ≤ length ps) → Err f ≡ map_built ps
      by_size n f size h (inl few) =
          let by = ascending_is_by_key ps qs moved (ascend few) in
          built_err n d (map_of qs) f depth h ∙ ap (λ m. built m (map_of qs)) size ∙ map_distinct ps qs by.0 by.1
      by_size n f size h (inr many) =
          let told : Err f ≡ Err ManyParts = h ∙ many_parts n (suc d) (suc d) (omega arith) in
          let fault : f ≡ ManyParts = cc in
          ap Err fault ∙ map_many ps many
