-- Torn writes: in wider ranges, and one run after another.
use Rattle.std.proofs.Common.{◌∙◌, ℕ, List, [], ◌∷◌, Option, arith}
use Rattle.host_model.specs.Disk.{Range, DiffersIn, Changes}
use Rattle.host_model.specs.Host.{Left, Shown, TearsIn, Reached}
use Rattle.host_model.specs.Leaves.{leaves_then, leaves_weaker}
use Rattle.host_model.specs.Tearing.{Tearing, IsWithin, absorbed, changes_then}

changes_wider : (P Q : List ℕ → List ℕ → Type 0) (old new : Option (List ℕ)) → ((x y : List ℕ) → P x y → Q x y) → Changes P old new → Changes Q old new
changes_wider P Q old new so c = record { told = λ x e. let t = c.told x e in (t.0, t.1, so x t.0 t.2); untold = c.untold }

widened : (rs ws : List Range) (before : Left → Type 0) (c : Left) → ((a b : List ℕ) → DiffersIn rs a b → DiffersIn ws a b)
    → Reached (TearsIn rs) before c → Reached (TearsIn ws) before c
widened rs ws before c so r = record {
  start = r.start;
  was_left = r.was_left;
  done = record {
    image = record { differs = so r.start.image c.image r.done.image.differs; bytes = r.done.image.bytes };
    output = r.done.output;
  };
}

-- in these ranges is in those
pub tearing_wider : (rs ws : List Range) (old now : Shown) → ((a b : List ℕ) → DiffersIn rs a b → DiffersIn ws a b) → Tearing rs old now → Tearing ws old now
tearing_wider rs ws old now so t =
    let wider = λ (c : Left) (r : Reached (TearsIn rs) old.may_leave c). widened rs ws old.may_leave c so r in
    record {
      leaves = leaves_weaker old now (Reached (TearsIn rs) old.may_leave) (Reached (TearsIn ws) old.may_leave) wider t.leaves;
      left_now = λ c left. wider c (t.left_now c left);
      file = changes_wider (DiffersIn rs) (DiffersIn ws) old.file now.file so t.file;
      said = t.said;
      reads = t.reads;
      never_falls = t.never_falls;
      out_faults = t.out_faults;
    }

joined : (r : Range) (rs : List Range) (old mid : Shown) (c : Left) → IsWithin r rs → Tearing rs old mid → Reached (TearsIn (r ∷ [])) mid.may_leave c
    → Reached (TearsIn rs) old.may_leave c
joined r rs old mid c w t q =
    let first = t.left_now q.start q.was_left in
    record {
      start = first.start;
      was_left = first.was_left;
      done = record {
        image = record { differs = absorbed r rs _ _ _ w first.done.image.differs q.done.image.differs; bytes = q.done.image.bytes };
        output = q.done.output ∙ first.done.output;
      };
    }

-- a run after another one, whose range lies within
pub tearing_then : (r : Range) (rs : List Range) (old mid new : Shown) → IsWithin r rs → Tearing rs old mid → Tearing (r ∷ []) mid new → Tearing rs old new
tearing_then r rs old mid new w t u =
    let P = Reached (TearsIn rs) old.may_leave in
    record {
      leaves = leaves_then old mid new P t.leaves
          (leaves_weaker mid new (Reached (TearsIn (r ∷ [])) mid.may_leave) P (λ c q. joined r rs old mid c w t q) u.leaves);
      left_now = λ c left. joined r rs old mid c w t (u.left_now c left);
      file = changes_then (DiffersIn rs) (DiffersIn (r ∷ [])) (DiffersIn rs) old.file mid.file new.file
          (λ x y z p q. absorbed r rs x y z w p q) t.file u.file;
      said = u.said ∙ t.said;
      reads = u.reads ∙ t.reads;
      never_falls = omega (arith, t.never_falls, u.never_falls);
      out_faults = u.out_faults ∙ t.out_faults;
    }
