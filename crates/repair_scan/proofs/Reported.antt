-- The report is that of the file.
use Rattle.std.proofs.Common.{◌≡◌, ◌↔◌, ◌≤◌, ◌+◌, ℕ, true, not, ◌&&◌, ◌||◌, ◌==◌, List, [], ◌∷◌, map, length, take, Option, Some, None, Result, Ok, Err, ap, refl, sym, ◌∙◌, subst, arith, ⊎_elim}
use Rattle.std.specs.Prelude.{min, fold, sum_by, slice_get, is_none, IsErrAnd, IsTrue}
use Rattle.std.proofs.Math.Bool.{and-true, and-false}
use Rattle.std.proofs.lemmas.List.Sums.{fold_more}
use Rattle.std.proofs.lemmas.Option.{slice_get_within, slice_get_cases, get_or_from_slice_get}
use Rattle.std.proofs.lemmas.List.{length-map}
use Rattle.std.proofs.lemmas.List.Concat.{length-flat_map}
use Rattle.std.proofs.lemmas.Bool.Decides.{nat_tests}
use Rattle.space_model.specs.Sizes.{segment_units}
use Rattle.file_model.specs.declared.entry.Entry.{Entry}
use Rattle.file_model.specs.declared.reject.Reject.{Reject}
use Rattle.file_model.specs.declared.head.Located.{Located}
use Rattle.file_model.specs.declared.head.Unreadable.{Unreadable}
use Rattle.file_model.specs.declared.head.Unreadable.TheVariants as unreadable
use Rattle.file_model.specs.Layout.{whole_segments}
use Rattle.file_model.specs.Header.{head_of, located}
use Rattle.file_model.specs.Block.{Block}
use Rattle.file_model.specs.View.{View, view_of}
use Rattle.file_model.specs.Taken.{taken, rejects, entries, entry_of, objects_in}
use Rattle.file_model.specs.Fit.{are_none, has_segments, has_no_rejects, index_named, lists_taken, can_be_read, is_dirty, is_sound, needs_repair, IsSound, NeedsRepair}
use Rattle.block_disk.specs.declared.fault.HeadFault.{HeadFault}
use Rattle.block_disk.specs.declared.fault.HeadFault.TheVariants.{Disk, NotDets, Version}
use Rattle.block_disk.specs.Answer.{Answers}
use Rattle.repair_scan.specs.declared.found.Found.{Found}
use Rattle.repair_scan.specs.declared.report.Report.{Report}
use Rattle.repair_scan.specs.Faults.{header_fault}
use Rattle.repair_scan.specs.Reports.{report_of, Tells}
use Rattle.repair_scan.specs.Filling.{is_in_order, report_with}

-- ---- sums

pub sum_more : (f : Entry → ℕ) (xs : List Entry) (i : ℕ) (x : Entry) → slice_get xs i ≡ Some x
    → sum_by f (take (i + 1) xs) ≡ sum_by f (take i xs) + f x
sum_more f xs i x e =
    fold_more (λ a (y : Entry). a + f y) 0 xs i x (slice_get_within xs i x e)
    ∙ ap (λ y. sum_by f (take i xs) + f y) (get_or_from_slice_get xs i x x e)

pub none_past : (xs : List Entry) (i : ℕ) → None ≡ slice_get xs i → length xs ≤ i
none_past xs i e = ⊎_elim (λ found. absurd (cc (e, found.2))) (λ none. none.0) (slice_get_cases xs i).1

counts_behind : (n : ℕ) (bs : List Block) → fold (λ a (e : Entry). a + e.count) n (map entry_of bs) ≡ fold (λ a (b : Block). a + length b.objects) n bs
counts_behind n [] = refl
counts_behind n (b ∷ bs) = counts_behind (n + length b.objects) bs

objects_of_entries : (bs : List Block) → sum_by (λ e. e.count) (map entry_of bs) ≡ sum_by (λ (b : Block). length b.objects) bs
objects_of_entries bs = counts_behind 0 bs

-- ---- what is in order

listed : (o : Option ℕ) (v : View) → is_none o ≡ lists_taken (index_named o) v
listed None v = refl
listed (Some u) v = refl

read_by : (o : Option ℕ) (v : View) → (has_no_rejects v && is_none o) ≡ can_be_read (index_named o) v
read_by None v = and-true (has_no_rejects v)
read_by (Some u) v = and-false (has_no_rejects v)

all_there : (f : List ℕ) (l : Located) → l.whole ≡ min l.head.segments (whole_segments segment_units f) → (l.whole == l.head.segments) ≡ has_segments l.head f
all_there f l e = grind (arith, nat_tests)

-- it needs repair by its header and its rejects
pub needs_by : (f : List ℕ) (l : Located) (rs : List Reject) → l.whole ≡ min l.head.segments (whole_segments segment_units f)
    → rs ≡ rejects (view_of l.head f) → (is_dirty l.head.state || not (is_in_order l rs)) ≡ needs_repair l.head f
needs_by f l rs whole are =
    ap (λ t. is_dirty l.head.state || not (t && (are_none rs && is_none l.head.index))) (all_there f l whole)
    ∙ ap (λ r. is_dirty l.head.state || not (has_segments l.head f && (are_none r && is_none l.head.index))) are
    ∙ ap (λ t. is_dirty l.head.state || not (has_segments l.head f && t)) (read_by l.head.index (view_of l.head f))

module _ (f : List ℕ) (l : Located) (found : Found) (whole : l.whole ≡ min l.head.segments (whole_segments segment_units f))
    (es : found.entries ≡ entries (view_of l.head f)) (rs : found.rejects ≡ rejects (view_of l.head f)) where
  abbrev v : View
  v = view_of l.head f

  keys : length found.entries ≡ length (taken v)
  keys = ap length es ∙ length-map (taken v) entry_of

  objects : sum_by (λ e. e.count) found.entries ≡ length (objects_in (taken v))
  objects =
      ap (sum_by (λ (e : Entry). e.count)) es ∙ objects_of_entries (taken v)
      ∙ sym (length-flat_map (λ (b : Block). b.objects) (taken v))

  sound : (is_dirty l.head.state || is_in_order l found.rejects) ≡ is_sound l.head f
  sound =
      ap (λ t. is_dirty l.head.state || (t && (are_none found.rejects && is_none l.head.index))) (all_there f l whole)
      ∙ ap (λ r. is_dirty l.head.state || (has_segments l.head f && (are_none r && is_none l.head.index))) rs
      ∙ ap (λ t. is_dirty l.head.state || (has_segments l.head f && (has_no_rejects v && t))) (listed l.head.index v)

  needs : (is_dirty l.head.state || not (is_in_order l found.rejects)) ≡ needs_repair l.head f
  needs = needs_by f l found.rejects whole rs

  pub filled : report_with l found ≡ report_of l f
  filled = cc (keys, objects, rs, sound, needs)

-- ---- a header that is not read

pub err_is : {X E : Type 0} (r : Result X E) (e : E) → IsErrAnd r (λ x. x ≡ e) → r ≡ Err e
err_is (Ok x) e h = absurd h
err_is (Err x) e h = ap (λ y. Err y) h

told_by : (why : HeadFault) (f : List ℕ) (r : Result Located Unreadable) → located f ≡ r → Answers (Err why) r → Tells (Err (header_fault why)) f
told_by Disk f r is a = tt
told_by NotDets f (Ok l) is a = absurd (⊎_elim (λ e. cc e) (λ e. cc e) a)
told_by NotDets f (Err unreadable.NotDets) is a = is
told_by NotDets f (Err (unreadable.Version n)) is a = absurd (⊎_elim (λ e. cc e) (λ e. cc e) a)
told_by (Version number) f (Ok l) is a = absurd (⊎_elim (λ e. cc e) (λ e. cc e) a)
told_by (Version number) f (Err unreadable.NotDets) is a = absurd (⊎_elim (λ e. cc e) (λ e. cc e) a)
told_by (Version number) f (Err (unreadable.Version n)) is a = ⊎_elim
    (λ e. absurd (cc e))
    (λ e. let same : n ≡ number = cc e in is ∙ ap (λ m. Err (unreadable.Version m)) same)
    a

pub header_told : (why : HeadFault) (f : List ℕ) → Answers (Err why) (located f) → Tells (Err (header_fault why)) f
header_told why f a = told_by why f (located f) refl a

-- ---- what a report says

pub sound_exactly : (f : List ℕ) (l : Located) (r : Report) → head_of f ≡ Ok l.head → r ≡ report_of l f → IsTrue r.sound ↔ IsSound f
sound_exactly f l r at e = (
  λ s. record { head = l.head; read = at; sound = sym (ap (λ x. x.sound) e) ∙ s },
  λ s. let same : s.head ≡ l.head = cc (s.read, at) in ap (λ x. x.sound) e ∙ subst (λ h. is_sound h f ≡ true) same s.sound,
)

pub needs_exactly : (f : List ℕ) (l : Located) (r : Report) → head_of f ≡ Ok l.head → r ≡ report_of l f → IsTrue r.needs_repair ↔ NeedsRepair f
needs_exactly f l r at e = (
  λ s. record { head = l.head; read = at; needs = sym (ap (λ x. x.needs_repair) e) ∙ s },
  λ s. let same : s.head ≡ l.head = cc (s.read, at) in ap (λ x. x.needs_repair) e ∙ subst (λ h. needs_repair h f ≡ true) same s.needs,
)
