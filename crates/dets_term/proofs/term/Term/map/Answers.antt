use Rattle.std.proofs.Common.{◌≡◌, ◌<◌, ◌^◌, length, suc, sym, ◌∙◌, arith}
use Rattle.std.proofs.lemmas.Result.{err_from_is_err_and}
use Rattle.std.proofs.lemmas.List.Sorted.{length_permutation}
use Rattle.term_model.specs.TermValue.{map_of, parts_depth}
use Rattle.term_model.specs.IsTerm.{AreAscending}
use Rattle.term_model.specs.Pairs.{keys}
use Rattle.dets_term.specs.Parts.{parts_depth-map_of}
use Rattle.dets_term.proofs.Limited.{limited_ok}
use Rattle.dets_term.proofs.PairParts.{IsBounded-map_of}
use Rattle.term_model.specs.Sorting.{in_order_from_sort}
use Rattle.term_model.specs.PairSorts.{repeats_unless_ascending}
use Rattle.dets_term.proofs.MapBuilt.{map_repeated, map_ok, map_err}
use Rattle.dets_term.proofs.term.Term.map.Goals as goal
use Rattle.dets_term.proofs.term.Term.map.Goals.{else-len-le-MAX_PARTS-via-then-len-le-MAX_PARTS+else-not-keys_ascend}
use Rattle.dets_term.proofs.term.Term.map.Goals.{else-len-le-MAX_PARTS-via-else-len-le-MAX_PARTS}

pub returns-then-not-keys_ascend : goal.returns-then-not-keys_ascend
returns-then-not-keys_ascend c =
    let moved = c.sort_by_key.ensures.permutation in
    let size : c.len.result ≡ length c.args.pairs = c.len.ensures ∙ length_permutation _ _ moved in
    let in_order = in_order_from_sort (λ p. p.0) _ c.sort_by_key.ensures.sorted in
    let down : AreAscending (keys c.sort_by_key.new.self) → ⊥ = λ up. let yes = c.keys_ascend.ensures.1 up in let no' = c.if-not-keys_ascend.true in cc in
    map_repeated c.args.pairs (omega (arith, c.if-len-le-MAX_PARTS.true)) (repeats_unless_ascending _ _ moved in_order down)

pub returns-in_err-level_above : goal.returns-in_err-level_above
returns-in_err-level_above c =
    let moved = c.sort_by_key.ensures.permutation in
    let size : c.len.result ≡ length c.args.pairs = c.len.ensures ∙ length_permutation _ _ moved in
    let parts : c.len-2.result ≡ length c.args.pairs = c.len-2.ensures ∙ length_permutation _ _ moved in
    let depth : parts_depth (map_of c.sort_by_key.new.self) ≡ c.levels.result = parts_depth-map_of c.sort_by_key.new.self ∙ sym c.levels.ensures.value in
    let told : length c.args.pairs < 2 ^ 32 → AreAscending (keys c.sort_by_key.new.self) =
    elim c.else-len-le-MAX_PARTS.branch [
      | else-len-le-MAX_PARTS-via-then-len-le-MAX_PARTS+else-not-keys_ascend w ↦ λ few. w.keys_ascend.ensures.0 w.if-not-keys_ascend.false
      | else-len-le-MAX_PARTS-via-else-len-le-MAX_PARTS w ↦ λ few. absurd (omega (arith, w.if-len-le-MAX_PARTS.false))
    ] in
    let p = err_from_is_err_and c.from_residual.result c.from_residual.ensures.1 in
    rw (p.1, p.2) (map_err c.args.pairs _ moved told c.levels.result depth c.len-2.result _ parts c.in_err-level_above.ensures)

pub invariant_of-result : goal.invariant_of-result
invariant_of-result c =
    let moved = c.sort_by_key.ensures.permutation in
    let size : c.len.result ≡ length c.args.pairs = c.len.ensures ∙ length_permutation _ _ moved in
    let parts : c.len-2.result ≡ length c.args.pairs = c.len-2.ensures ∙ length_permutation _ _ moved in
    let depth : parts_depth (map_of c.sort_by_key.new.self) ≡ c.levels.result = parts_depth-map_of c.sort_by_key.new.self ∙ sym c.levels.ensures.value in
    let told : length c.args.pairs < 2 ^ 32 → AreAscending (keys c.sort_by_key.new.self) =
    elim c.else-len-le-MAX_PARTS.branch [
      | else-len-le-MAX_PARTS-via-then-len-le-MAX_PARTS+else-not-keys_ascend w ↦ λ few. w.keys_ascend.ensures.0 w.if-not-keys_ascend.false
      | else-len-le-MAX_PARTS-via-else-len-le-MAX_PARTS w ↦ λ few. absurd (omega (arith, w.if-len-le-MAX_PARTS.false))
    ] in
    let limits = limited_ok c.len-2.result (suc c.levels.result) _ c.in_ok-level_above.field-0 (sym c.in_ok-level_above.ensures) in (
      record {
        shallow = omega (arith, limits.1);
        bounded = IsBounded-map_of _ (omega (arith, limits.0, c.len-2.ensures)) c.levels.ensures.pairs
            (told (omega (arith, limits.0)));
      },
      tt,
    )

pub returns : goal.returns
returns c =
    let moved = c.sort_by_key.ensures.permutation in
    let size : c.len.result ≡ length c.args.pairs = c.len.ensures ∙ length_permutation _ _ moved in
    let parts : c.len-2.result ≡ length c.args.pairs = c.len-2.ensures ∙ length_permutation _ _ moved in
    let depth : parts_depth (map_of c.sort_by_key.new.self) ≡ c.levels.result = parts_depth-map_of c.sort_by_key.new.self ∙ sym c.levels.ensures.value in
    let told : length c.args.pairs < 2 ^ 32 → AreAscending (keys c.sort_by_key.new.self) =
    elim c.else-len-le-MAX_PARTS.branch [
      | else-len-le-MAX_PARTS-via-then-len-le-MAX_PARTS+else-not-keys_ascend w ↦ λ few. w.keys_ascend.ensures.0 w.if-not-keys_ascend.false
      | else-len-le-MAX_PARTS-via-else-len-le-MAX_PARTS w ↦ λ few. absurd (omega (arith, w.if-len-le-MAX_PARTS.false))
    ] in
    map_ok c.args.pairs _ moved told c.levels.result depth c.len-2.result c.in_ok-level_above.field-0 parts c.in_ok-level_above.ensures
