-- The gates of the rejects of a file are closed, once its header says that it is dirty.
use Rattle.std.proofs.Common.{◌≡◌, ◌≤◌, ℕ, true, List, [], Option, Ok, sym, ap, ◌∙◌, arith}
use Rattle.std.proofs.lemmas.Bool.{le-leb, leb-true}
use Rattle.space_model.specs.Sizes.{segment_units}
use Rattle.host_model.specs.Disk.{WhereTold, Changes}
use Rattle.host_model.specs.Tearing.{told_before}
use Rattle.file_model.specs.declared.head.Head.{Head}
use Rattle.file_model.specs.declared.head.Located.{Located}
use Rattle.file_model.specs.declared.reject.Reject.{Reject}
use Rattle.file_model.specs.Layout.{whole_segments}
use Rattle.file_model.specs.Header.{head_of, located}
use Rattle.file_model.specs.View.{view_of}
use Rattle.file_model.specs.Taken.{taken_above, rejects, rejects_above}
use Rattle.file_model.specs.Fit.{has_no_rejects}
use Rattle.repair_scan.specs.Found.{KeepsTable}
use Rattle.store_model.specs.Keeping.{Keeps}
use Rattle.table_core.specs.Repairing.{IsMarked, IsRepaired}
use Rattle.table_core.specs.Below.{RepairLaws}
use Rattle.table_core.proofs.Marked.{same_table}

module _ (laws : RepairLaws) (h : Head) (q : Located) (f y : List ℕ) (m : IsMarked h q f y) where
  pub rejects_same : rejects (view_of q.head y) ≡ rejects (view_of h f)
  rejects_same = ap (λ us. rejects_above us []) m.open_units

  module _ (z : List ℕ) (k : KeepsTable q.head y z) where
    found : located z ≡ Ok q
    found = k.header ∙ m.place_is

    read : head_of z ≡ Ok q.head
    read = (laws.located z q found).0

    kind_is : q.head.kind ≡ h.kind
    kind_is = ap (λ (g : Head). g.kind) m.head

    keypos_is : q.head.keypos ≡ h.keypos
    keypos_is = ap (λ (g : Head). g.keypos) m.head

    pub keeps_closing : Keeps h f z
    keeps_closing = record {
      head = q.head;
      read = read;
      kind = kind_is;
      keypos = keypos_is;
      table = k.table ∙ same_table (view_of q.head y) (view_of h f) kind_is keypos_is m.open_units;
      fit = laws.fit q.head z read;
      sound = λ s. record { head = q.head; read = read; sound = laws.dirty_is_sound q.head z (ap (λ (g : Head). g.state) m.head) };
    }

    -- all segments of the header were there, and so they are
    all_there : q.head.segments ≤ whole_segments segment_units z
    all_there =
        let before = (laws.located y q m.place_is).2 in
        let now = (laws.located z q found).2 in
        let were = leb-true q.head.segments (whole_segments segment_units y) m.whole in
        omega (arith, before, now, were)

    pub repaired : has_no_rejects (view_of q.head z) ≡ true → IsRepaired h q f z
    repaired none = record {
      place_is = found;
      head = m.head;
      whole = le-leb q.head.segments (whole_segments segment_units z) all_there;
      blocks = k.blocks ∙ ap (λ us. taken_above us []) m.open_units;
      none = none;
    }

-- the rejects that were found are those that are seen with the new header
pub rejects_there : (h : Head) (q : Located) (rs : List Reject) (old mid : Option (List ℕ)) → RepairLaws
    → WhereTold old (λ f. rs ≡ rejects (view_of h f)) → Changes (IsMarked h q) old mid
    → WhereTold mid (λ y. rs ≡ rejects (view_of q.head y))
rejects_there h q rs old mid laws are marked y told =
    let t = told_before (IsMarked h q) old mid y marked told in
    are t.0 t.1 ∙ sym (rejects_same laws h q t.0 y t.2)
