-- What was found once all units were judged.
use Rattle.std.proofs.Common.{◌≡◌, ◌≤◌, ◌<◌, ◌+◌, ◌-◌, ◌*◌, ◌/◌, ◌==◌, ℕ, true, List, [], ◌∷◌, ◌++◌, map, length, ap, sym, ◌∙◌, arith, ⊎_elim}
use Rattle.std.specs.List.{AllByRecursion}
use Rattle.std.proofs.lemmas.Bool.{or_cases, eqb-true}
use Rattle.std.proofs.lemmas.List.{append-nil}
use Rattle.space_model.specs.Sizes.{segment_units}
use Rattle.file_model.specs.declared.head.Head.{Head}
use Rattle.file_model.specs.declared.reject.Reject.{Reject}
use Rattle.file_model.specs.Layout.{segment_at}
use Rattle.file_model.specs.LayoutLaws.{segment_below, segment_no_later}
use Rattle.file_model.specs.View.{Units, open_from, view}
use Rattle.file_model.specs.Taken.{taken_above, rejects_above, entry_of, entries, rejects}
use Rattle.file_model.specs.Gates.{is_among}
use Rattle.file_model.specs.GateWrites.{AreWhole}
use Rattle.repair_scan.specs.declared.judge.Judge.{Judge}
use Rattle.repair_scan.specs.Found.{units_of_rejects}
use Rattle.repair_scan.specs.Progress.{open_behind, IsJudgedTo}

module _ (h : Head) (v : Units) (u : ℕ) (j : Judge) (end : v.count ≤ u) (all : IsJudgedTo v u j) where
  none_behind : open_behind v u ≡ []
  none_behind = let none : v.count - u ≡ 0 = omega arith in ap (λ n. open_from v.is_open v.stands n u) none

  whole : open_behind v 0 ≡ (view h v).open_units
  whole = let count : v.count - 0 ≡ v.count = omega arith in ap (λ n. open_from v.is_open v.stands n 0) count

  pub all_entries : j.entries ≡ entries (view h v)
  all_entries =
      sym (append-nil j.entries) ∙ ap (λ os. j.entries ++ map entry_of (taken_above os all.below)) (sym none_behind)
      ∙ sym all.entries ∙ ap (λ os. map entry_of (taken_above os [])) whole

  pub all_rejects : j.rejects ≡ rejects (view h v)
  all_rejects =
      sym (append-nil j.rejects) ∙ ap (λ os. j.rejects ++ rejects_above os all.below) (sym none_behind)
      ∙ sym all.rejects ∙ ap (λ os. rejects_above os []) whole

-- ---- the units of rejects lie in segments that end in the file

among_below : (n u : ℕ) (rs : List Reject) → AllByRecursion (λ r. r.unit < n) rs → is_among (units_of_rejects rs) u ≡ true → u < n
among_below n u [] all e = absurd (cc e)
among_below n u (r ∷ rs) all e = ⊎_elim
    (λ here. let same : r.unit ≡ u = eqb-true r.unit u here in omega (arith, all.0))
    (λ there. among_below n u rs all.1 there)
    (or_cases (r.unit == u) (is_among (units_of_rejects rs) u) e)

pub rejects_whole : (segments : ℕ) (f : List ℕ) (rs : List Reject) → AllByRecursion (λ r. r.unit < segment_units * segments) rs
    → segment_at segment_units segments ≤ length f → AreWhole segment_units (units_of_rejects rs) f
rejects_whole segments f rs all long u a =
    let inside = among_below (segment_units * segments) u rs all a in
    let later = segment_no_later segment_units (u / segment_units + 1) segments (let below = segment_below segment_units u segments (omega arith) inside in omega (arith, below)) in
    omega (arith, later, long)
