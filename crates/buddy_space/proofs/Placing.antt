-- The best piece of all segments is the place of the definition.
use Rattle.std.proofs.Common.{◌≡◌, ◌≤◌, ◌<◌, ⊎_elim, ℕ, zero, suc, ◌+◌, ◌-◌, ◌/◌, ◌%◌, ◌^◌, Bool, true, List, Option, Some, None}
use Rattle.std.proofs.Common.{refl, ap, arith}
use Rattle.std.specs.Prelude.{not, option_map}
use Rattle.std.specs.List.{list_all, range_with_len}
use Rattle.std.proofs.lemmas.Nat.{pow_pos, div-add-mod', mod_below}
use Rattle.std.proofs.lemmas.Bool.{both_ways, and_parts, and_from, not_from_false, false_from_ne_true}
use Rattle.space_model.specs.Sizes.{segment_units}
use Rattle.space_model.specs.Runs.{Run, run, end_of, is_free, run_around, front_of_smallest, place}
use Rattle.space_model.specs.Apart.{HasRoom, Precedes}
use Rattle.space_model.proofs.FreeRuns.{aligned_times, larger_not_free}
use Rattle.space_model.proofs.Places.{place_is, no_place}
use Rattle.buddy_space.specs.declared.marks.Mark.{Mark}
use Rattle.buddy_space.specs.declared.marks.Run.{Run as UnitRun}
use Rattle.buddy_space.specs.SpaceState.{SpaceState, largest_exp, units, held}
use Rattle.buddy_space.specs.Marks.{run_of, IsMarked}
use Rattle.buddy_space.specs.Pieces.{IsPiece, IsFirst, IsBest}
use Rattle.buddy_space.proofs.Nests.{nests}
use Rattle.buddy_space.proofs.Freed.{free_by_marks, marks_by_free, ends_within}

-- ---- the run of an exponent around a unit

around_aligned : (unit exp : ℕ) → (unit - unit % 2 ^ exp) % 2 ^ exp ≡ 0
around_aligned unit exp =
    let whole = div-add-mod' unit (2 ^ exp) in
    aligned_times (unit - unit % 2 ^ exp) (unit / 2 ^ exp) exp exp (omega arith) (omega (arith, whole))

around_has : (r : Run) (exp : ℕ) → r.unit % 2 ^ r.exp ≡ 0 → r.exp ≤ exp → (r.unit - r.unit % 2 ^ exp ≤ r.unit) × (end_of r ≤ r.unit - r.unit % 2 ^ exp + 2 ^ exp)
around_has r exp aligned more =
    let some = pow_pos r.exp in
    let digit = mod_below r.unit (2 ^ exp) (pow_pos exp) in
    let whole = div-add-mod' r.unit (2 ^ exp) in ⊎_elim
    (λ apart. ⊎_elim
    (λ (x : end_of r ≤ r.unit - r.unit % 2 ^ exp). absurd (omega (arith, x, some)))
    (λ (x : r.unit - r.unit % 2 ^ exp + 2 ^ exp ≤ r.unit). absurd (omega (arith, x, digit, whole))) apart)
    (λ within. (within.0, within.1))
    (nests r (run_around r.unit exp) aligned (around_aligned r.unit exp) more)

all_true : (f : ℕ → Bool) (from n : ℕ) → ((e : ℕ) → from ≤ e → e < from + n → f e ≡ true) → list_all f (range_with_len from n) ≡ true
all_true f from zero each = refl
all_true f from (suc n) each =
    and_from (f from) (list_all f (range_with_len (from + 1) n)) (each from (omega arith) (omega arith))
    (all_true f (from + 1) n (λ e low high. each e (omega (arith, low)) (omega (arith, high))))

-- ---- pieces and rooms

room_of_piece : (marks : List Mark) (s : SpaceState) (wanted : ℕ) (r : Run) → IsMarked marks s → IsPiece largest_exp marks r → wanted ≤ r.exp
    → HasRoom largest_exp (units s) (held s) wanted r
room_of_piece marks s wanted r is piece enough =
    let long = is.whole in
    let ends = ends_within marks r piece.free in record {
      enough = enough;
      is_run = record { exp = piece.exp; aligned = piece.aligned; ends = omega (arith, long, ends) };
      maximal = and_from (is_free (units s) (held s) r) (list_all larger_held (range_with_len (r.exp + 1) (12 - r.exp)))
          (free_by_marks marks s r is (omega (arith, long, ends)) piece.free)
          (all_true larger_held (r.exp + 1) (12 - r.exp) (λ e low high. not_from_false _ (false_from_ne_true _ (none_larger e low high))));
    }
  where
    larger_held : ℕ → Bool
    larger_held e = not (is_free (units s) (held s) (run_around r.unit e))

    none_larger : (e : ℕ) → r.exp + 1 ≤ e → e < r.exp + 1 + (12 - r.exp) → is_free (units s) (held s) (run_around r.unit e) ≡ true → ⊥
    none_larger e low high free =
        let fits = piece.exp in
        let has = around_has r e piece.aligned (omega (arith, low)) in
        piece.maximal (run_around r.unit e) (omega (arith, high, fits)) (around_aligned r.unit e) (omega (arith, low)) has.0 has.1
        (marks_by_free marks s (run_around r.unit e) is free)

piece_of_room : (marks : List Mark) (s : SpaceState) (wanted : ℕ) (r : Run) → IsMarked marks s → HasRoom largest_exp (units s) (held s) wanted r
    → IsPiece largest_exp marks r
piece_of_room marks s wanted r is room = record {
  exp = room.is_run.exp;
  aligned = room.is_run.aligned;
  free = marks_by_free marks s r is (and_parts (is_free (units s) (held s) r) _ room.maximal).0;
  maximal = λ q fits aligned more low high free.
      let long = is.whole in
      let ends = ends_within marks q free in
      let within : end_of q ≤ units s = omega (arith, long, ends) in
      both_ways _ (larger_not_free largest_exp (units s) (held s) r q room.maximal (record { exp = fits; aligned = aligned; ends = within }) more low high)
      (free_by_marks marks s q is within free);
}

-- ---- the place

-- of two runs that precede each other both are the same
same_unit : (r q : Run) → Precedes r q → Precedes q r → r.unit ≡ q.unit
same_unit r q a b = ⊎_elim
    (λ (x : r.exp < q.exp). ⊎_elim (λ (y : q.exp < r.exp). absurd (omega (arith, x, y))) (λ y. let e = y.0 in absurd (omega (arith, x, e))) b)
    (λ x. let e = x.0 in let l = x.1 in ⊎_elim
    (λ (y : q.exp < r.exp). absurd (omega (arith, e, y))) (λ y. let m = y.1 in omega (arith, l, m)) b) a

abbrev unit_of : Option UnitRun → Option ℕ
unit_of best = option_map (λ (r : UnitRun). r.unit) best

none_is_none : (marks : List Mark) (s : SpaceState) (wanted : ℕ) (found : Option ℕ) → IsMarked marks s → IsBest 12 marks wanted 0 (units s) None
    → front_of_smallest largest_exp (units s) (held s) wanted ≡ found → None ≡ found
none_is_none marks s wanted None is none found = refl
none_is_none marks s wanted (Some u) is none found =
    let p = place_is largest_exp (units s) (held s) wanted u found in
    absurd (none (run u p.size) (piece_of_room marks s wanted (run u p.size) is p.has_room) p.has_room.enough (omega arith) p.has_room.is_run.ends)

first_is_place : (marks : List Mark) (s : SpaceState) (wanted : ℕ) (r : Run) (found : Option ℕ) → IsMarked marks s
    → IsFirst 12 marks wanted 0 (units s) r → front_of_smallest largest_exp (units s) (held s) wanted ≡ found → Some r.unit ≡ found
first_is_place marks s wanted r None is f found =
    let room = room_of_piece marks s wanted r is f.piece f.enough in
    absurd (both_ways _ (no_place largest_exp (units s) (held s) wanted r found f.enough room.is_run)
    (and_parts (is_free (units s) (held s) r) _ room.maximal).0)
first_is_place marks s wanted r (Some u) is f found =
    let p = place_is largest_exp (units s) (held s) wanted u found in
    let room = room_of_piece marks s wanted r is f.piece f.enough in
    ap (λ n. Some n) (same_unit r (run u p.size)
    (f.first (run u p.size) (piece_of_room marks s wanted (run u p.size) is p.has_room) p.has_room.enough (omega arith) p.has_room.is_run.ends)
    (p.first r room))

pub best_is_place : (marks : List Mark) (s : SpaceState) (wanted : ℕ) (best : Option UnitRun) → IsMarked marks s → IsBest 12 marks wanted 0 (units s) best
    → unit_of best ≡ place segment_units s.segments (held s) wanted
best_is_place marks s wanted None is none = none_is_none marks s wanted (place segment_units s.segments (held s) wanted) is none refl
best_is_place marks s wanted (Some r) is f = first_is_place marks s wanted (run_of r) (place segment_units s.segments (held s) wanted) is f refl
