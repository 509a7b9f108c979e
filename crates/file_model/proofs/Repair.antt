-- The gates of rejects are closed in an image.
use Rattle.std.proofs.Common.{◌≡◌, ◌≤◌, ◌<◌, ⊎_elim, ℕ, true, List, [], length, ap, ◌∙◌, arith}
use Rattle.std.specs.Prelude.{not}
use Rattle.std.proofs.lemmas.Bool.{cases_Bool, both_ways, and_parts, and_from, and_right, not_from_false}
use Rattle.host_model.specs.Disk.{DiffersIn}
use Rattle.host_model.specs.Writes.{ranges_of, with_writes}
use Rattle.host_model.specs.WritesLaws.{DiffersIn-writes}
use Rattle.file_model.specs.declared.head.Head.{Head}
use Rattle.file_model.specs.Layout.{page_size, closed_byte}
use Rattle.file_model.specs.Header.{located}
use Rattle.file_model.specs.View.{Units, units_in, view}
use Rattle.file_model.specs.Taken.{taken, table_of}
use Rattle.file_model.specs.Fit.{has_no_rejects}
use Rattle.file_model.specs.Gates.{is_among, rejected_units, ClosesRejects}
use Rattle.file_model.specs.GateWrites.{gate_writes, AreWhole, AreOpen, OnlyGatesDiffer}
use Rattle.file_model.specs.Flush.{table_in}
use Rattle.file_model.proofs.Rejects.{rejects_open, blocks_without, table_without, none_without}
use Rattle.file_model.proofs.GateWrites.{gates_torn, seen_by_gates, closes_some, gates_closed, lie_inside, unit_inside}
use Rattle.file_model.proofs.BodyWrites.{begin_inside}

module _ (n : ℕ) (h : Head) (old : List ℕ) (some : 0 < n) (page : page_size ≤ length old) where
  abbrev file : Units
  file = units_in n h old

  abbrev us : List ℕ
  us = rejected_units (view h file)

  rejected_open : (u : ℕ) → is_among us u ≡ true → (file.is_open u ≡ true) × (u < file.count)
  rejected_open u a = let r = rejects_open file.is_open file.stands file.count 0 u [] a in let l = r.1 in (r.0, omega arith)

  whole : AreWhole n us old
  whole u a = unit_inside n h old u some (rejected_open u a).1

  open_in_old : AreOpen n us old
  open_in_old u a = (rejected_open u a).0

  closing : (z : List ℕ) → DiffersIn (ranges_of (gate_writes n closed_byte us)) old z → OnlyGatesDiffer n us old z
  closing z d = gates_torn n closed_byte us old z some page whole d

  closes : (z : List ℕ) → OnlyGatesDiffer n us old z → ClosesRejects h file (units_in n h z).is_open
  closes z only =
      let between = closes_some n us old z h open_in_old only in
      record {
        no_others = λ u o. ⊎_elim
            (λ a. (and_parts (file.is_open u) (not (is_among us u)) a).0)
            (λ b. b)
            (between.at_most u o);
        rejected = λ u l o shut. ⊎_elim
            (λ among. among)
            (λ none. absurd (both_ways _ shut (between.at_least u (and_from _ _ o (not_from_false _ none)))))
            (cases_Bool (is_among us u));
      }

  pub while_closing_rejects : (z : List ℕ) → DiffersIn (ranges_of (gate_writes n closed_byte us)) old z
      → (located z ≡ located old) × (table_in n h z ≡ table_in n h old)
  while_closing_rejects z d =
      let only = closing z d in
      (only.header, ap table_of (seen_by_gates n us old z h only) ∙ table_without h file (units_in n h z).is_open (closes z only))

  pub blocks_while_closing : (z : List ℕ) → DiffersIn (ranges_of (gate_writes n closed_byte us)) old z
      → taken (view h (units_in n h z)) ≡ taken (view h file)
  blocks_while_closing z d =
      let only = closing z d in
      ap taken (seen_by_gates n us old z h only) ∙ blocks_without h file (units_in n h z).is_open (closes z only)

  abbrev done : List ℕ
  done = with_writes (gate_writes n closed_byte us) old

  done_differs : OnlyGatesDiffer n us old done
  done_differs =
      let writes = gate_writes n closed_byte us in
      closing done (DiffersIn-writes writes old (begin_inside writes old (lie_inside n closed_byte us old some whole)))

  pub rejects_closed : has_no_rejects (view h (units_in n h done)) ≡ true
  rejects_closed =
      ap has_no_rejects (seen_by_gates n us old done h done_differs)
      ∙ none_without h file (units_in n h done).is_open (closes done done_differs)
      (λ u a. gates_closed n us old u some whole ∙ and_right (file.is_open u) _ (ap not a))
