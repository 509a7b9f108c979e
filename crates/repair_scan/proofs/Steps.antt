-- One unit more was judged.
use Rattle.std.proofs.Common.{◌≡◌, ◌<◌, ◌+◌, ◌-◌, ℕ, Bool, true, false, [], ◌∷◌, ◌++◌, map, Ok, Err, ap, refl, sym, ◌∙◌, append_assoc}
use Rattle.file_model.specs.Block.{Standing}
use Rattle.file_model.specs.View.{Units, with_unit, open_from}
use Rattle.file_model.specs.Taken.{judged, taken_next, taken_above, rejects_next, rejects_above, entry_of}
use Rattle.repair_scan.specs.declared.judge.Judge.{Judge}
use Rattle.repair_scan.specs.Judgements.{Judges}
use Rattle.repair_scan.specs.Progress.{open_behind, IsJudgedTo}
use Rattle.repair_scan.proofs.Judged.{last_later}

abbrev Follow : Type 0
Follow = (gates : ℕ → Bool) (stands : ℕ → Standing) (n u : ℕ) → u < n
    → open_from gates stands (n - u) u ≡ with_unit (gates u) stands u (open_from gates stands (n - (u + 1)) (u + 1))

module _ (follow : Follow) (v : Units) (u : ℕ) (inside : u < v.count) where
  here : (t : Bool) → v.is_open u ≡ t → open_behind v u ≡ with_unit t v.stands u (open_behind v (u + 1))
  here t e = follow v.is_open v.stands v.count u inside ∙ ap (λ t. with_unit t v.stands u (open_behind v (u + 1))) e

  pub past_closed : (j : Judge) → v.is_open u ≡ false → IsJudgedTo v u j → IsJudgedTo v (u + 1) j
  past_closed j shut p = record {
    below = p.below;
    reflects = record { last = last_later u j.last j.end p.below p.reflects.last; keys = p.reflects.keys };
    entries = p.entries ∙ ap (λ os. j.entries ++ map entry_of (taken_above os p.below)) (here false shut);
    rejects = p.rejects ∙ ap (λ os. j.rejects ++ rejects_above os p.below) (here false shut);
  }

  by_judgement : (old new : Judge) → v.is_open u ≡ true → (p : IsJudgedTo v u old) (s : Standing) → judged p.below (v.stands u) ≡ s
      → Judges p.below u old new s → IsJudgedTo v (u + 1) new
  by_judgement old new opened p (Ok b) is g = record {
    below = b ∷ p.below;
    reflects = g.0;
    entries =
        p.entries ∙ ap (λ os. old.entries ++ map entry_of (taken_above os p.below)) (here true opened)
        ∙ ap (λ s. old.entries ++ map entry_of (taken_next (taken_above (open_behind v (u + 1))) p.below s)) is
        ∙ sym (append_assoc old.entries (entry_of b ∷ []) (map entry_of (taken_above (open_behind v (u + 1)) (b ∷ p.below))))
        ∙ ap (λ es. es ++ map entry_of (taken_above (open_behind v (u + 1)) (b ∷ p.below))) (sym g.1);
    rejects =
        p.rejects ∙ ap (λ os. old.rejects ++ rejects_above os p.below) (here true opened)
        ∙ ap (λ s. old.rejects ++ rejects_next (rejects_above (open_behind v (u + 1))) u p.below s) is
        ∙ ap (λ rs. rs ++ rejects_above (open_behind v (u + 1)) (b ∷ p.below)) (sym g.2);
  }
  by_judgement old new opened p (Err reason) is g = record {
    below = p.below;
    reflects = g.0;
    entries =
        p.entries ∙ ap (λ os. old.entries ++ map entry_of (taken_above os p.below)) (here true opened)
        ∙ ap (λ s. old.entries ++ map entry_of (taken_next (taken_above (open_behind v (u + 1))) p.below s)) is
        ∙ ap (λ es. es ++ map entry_of (taken_above (open_behind v (u + 1)) p.below)) (sym g.1);
    rejects =
        p.rejects ∙ ap (λ os. old.rejects ++ rejects_above os p.below) (here true opened)
        ∙ ap (λ s. old.rejects ++ rejects_next (rejects_above (open_behind v (u + 1))) u p.below s) is
        ∙ sym (append_assoc old.rejects (record { unit = u; reason = reason } ∷ []) (rejects_above (open_behind v (u + 1)) p.below))
        ∙ ap (λ rs. rs ++ rejects_above (open_behind v (u + 1)) p.below) (sym g.2);
  }

  pub past_open : (old new : Judge) → v.is_open u ≡ true → (p : IsJudgedTo v u old) → Judges p.below u old new (judged p.below (v.stands u))
      → IsJudgedTo v (u + 1) new
  past_open old new opened p g = by_judgement old new opened p (judged p.below (v.stands u)) refl g
