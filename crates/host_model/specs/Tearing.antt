-- Writes within some ranges since a start, which no sync has followed yet. All of it is this project's own.
use Rattle.std.specs.Prelude.{◌≡◌, ◌≤◌, ◌+◌, ℕ, false, List, ◌∷◌, [], length, Option, Some, None, option_map}
use Rattle.std.proofs.Common.{arith, sym, ap, ◌∙◌, refl, subst}
use Rattle.host_model.specs.Disk.{Range, range, is_in, in_doubt, furthest, DiffersIn, written_at, WhereTold, Changes}
use Rattle.host_model.specs.Torn.{alone, DiffersIn-refl, DiffersIn-written}
use Rattle.host_model.specs.Host.{Left, Shown, IsCoherent, TearsIn, Tears, Stays, Reached, Goes, LeavesOnly}
use Rattle.host_model.specs.Leaves.{leaves_start, leaves_then, leaves_by_call, stays_was_left}

pub record Tearing (ranges : List Range) (old now : Shown) : Type 0 where
  -- a stop since the start leaves what it left before, or that with these ranges torn, and so does a stop now
  pub leaves : LeavesOnly old now (Reached (TearsIn ranges) old.may_leave)
  pub left_now : (c : Left) → now.may_leave c → Reached (TearsIn ranges) old.may_leave c
  -- the file as it reads differs in these ranges alone
  pub file : Changes (DiffersIn ranges) old.file now.file
  pub said : now.said ≡ old.said
  pub reads : now.reads ≡ old.reads
  pub never_falls : old.disk_faults ≤ now.disk_faults
  pub out_faults : now.out_faults ≡ old.out_faults

-- a range that lies within others
pub record IsWithin (r : Range) (ranges : List Range) : Type 0 where
  pub outside : (k : ℕ) → in_doubt ranges k ≡ false → is_in r k ≡ false
  pub reached : (n : ℕ) → r.from + r.count ≤ furthest n ranges

-- ---- lemmas

-- What may differ in some ranges, and then in one within them, differs in these.
pub absorbed : (r : Range) (ranges : List Range) (a b c : List ℕ) → IsWithin r ranges → DiffersIn ranges a b
    → DiffersIn (r ∷ []) b c → DiffersIn ranges a c
absorbed r ranges a b c w p q = record {
  outside = λ k e. q.outside k (alone r k (w.outside k e)) ∙ p.outside k e;
  no_shorter = omega (arith, p.no_shorter, q.no_shorter);
  no_longer = omega (arith, p.no_longer, q.no_longer, w.reached (length a));
}

-- what is told after a change was told before it
pub told_before : (R : List ℕ → List ℕ → Type 0) (old new : Option (List ℕ)) (y : List ℕ) → Changes R old new → new ≡ Some y
    → (x : List ℕ) × (old ≡ Some x) × R x y
told_before R None new y c e = absurd (cc (c.untold refl))
told_before R (Some x) new y c e =
    let t = c.told x refl in
    let same : t.0 ≡ y = cc (t.1, e) in
    (x, refl, subst (λ z. R x z) same t.2)

-- two changes, one after the other
pub changes_then : (P Q R : List ℕ → List ℕ → Type 0) (a b c : Option (List ℕ)) → ((x y z : List ℕ) → P x y → Q y z → R x z)
    → Changes P a b → Changes Q b c → Changes R a c
changes_then P Q R a b c join p q = record {
  told = λ x e. let s = p.told x e in let t = q.told s.0 s.1 in (t.0, t.1, join x s.0 t.0 s.2 t.2);
  untold = λ e. q.untold (p.untold e);
}

-- a change that a function tells
pub changes_by : (R : List ℕ → List ℕ → Type 0) (f : List ℕ → List ℕ) (old new : Option (List ℕ)) → WhereTold old (λ x. R x (f x))
    → new ≡ option_map f old → Changes R old new
changes_by R f old new so e = record {
  told = λ x o. (f x, e ∙ ap (option_map f) o, so x o);
  untold = λ o. e ∙ ap (option_map f) o;
}

-- a write that begins inside the file changes its range
pub changes_written : (at : ℕ) (bytes : List ℕ) (old new : Option (List ℕ)) → WhereTold old (λ f. at ≤ length f)
    → new ≡ option_map (written_at at bytes) old → Changes (DiffersIn (range at (length bytes) ∷ [])) old new
changes_written at bytes old new within e =
    changes_by (DiffersIn (range at (length bytes) ∷ [])) (written_at at bytes) old new (λ x o. DiffersIn-written at bytes x (within x o)) e

-- Nothing was written yet.
pub tearing_start : (ranges : List Range) (h : Shown) → IsCoherent h → Tearing ranges h h
tearing_start ranges h coherent = record {
  leaves = leaves_start h (Reached (TearsIn ranges) h.may_leave);
  left_now = λ c left. record {
    start = c;
    was_left = left;
    done = record {
      image = record { differs = DiffersIn-refl ranges c.image; bytes = coherent.bytes h.clock c (coherent.counts_now c left) };
      output = refl;
    };
  };
  file = record { told = λ x e. (x, e, DiffersIn-refl ranges x); untold = λ e. e };
  said = refl;
  reads = refl;
  never_falls = omega arith;
  out_faults = refl;
}

-- one more torn write, within the ranges
torn_within : (at n : ℕ) (ranges : List Range) (before : Left → Type 0) (c : Left) → IsWithin (range at n) ranges
    → Reached (Tears at n) (Reached (TearsIn ranges) before) c → Reached (TearsIn ranges) before c
torn_within at n ranges before c w r = let first = r.was_left in record {
  start = first.start;
  was_left = first.was_left;
  done = record {
    image = record { differs = absorbed (range at n) ranges _ _ _ w first.done.image.differs r.done.image.differs; bytes = r.done.image.bytes };
    output = r.done.output ∙ first.done.output;
  };
}

reached_from : (effect : Left → Left → Type 0) (P Q : Left → Type 0) (c : Left) → ((d : Left) → P d → Q d) → Reached effect P c
    → Reached effect Q c
reached_from effect P Q c so r = record { start = r.start; was_left = so r.start r.was_left; done = r.done }

-- A write within the ranges, whatever it answers.
pub tearing_more : (ranges : List Range) (at n : ℕ) (old mid new : Shown) → IsWithin (range at n) ranges → Tearing ranges old mid
    → Goes (Tears at n) mid new → Changes (DiffersIn (range at n ∷ [])) mid.file new.file → new.said ≡ mid.said
    → new.reads ≡ mid.reads → mid.disk_faults ≤ new.disk_faults → new.out_faults ≡ mid.out_faults → Tearing ranges old new
tearing_more ranges at n old mid new w t goes file said reads falls out =
    let P = Reached (TearsIn ranges) old.may_leave in
    let torn = λ (c : Left) (r : Reached (Tears at n) mid.may_leave c).
    torn_within at n ranges old.may_leave c w (reached_from (Tears at n) mid.may_leave P c t.left_now r) in
    record {
      leaves = leaves_then old mid new P t.leaves (leaves_by_call (Tears at n) mid new P goes torn);
      left_now = λ c left. torn c (goes.after c left);
      file = changes_then (DiffersIn ranges) (DiffersIn (range at n ∷ [])) (DiffersIn ranges) old.file mid.file new.file
          (λ x y z p q. absorbed (range at n) ranges x y z w p q) t.file file;
      said = said ∙ t.said;
      reads = reads ∙ t.reads;
      never_falls = omega (arith, t.never_falls, falls);
      out_faults = out ∙ t.out_faults;
    }

-- A sync behind the writes, whatever it answers.
pub tearing_synced : (ranges : List Range) (old mid new : Shown) → Tearing ranges old mid → Goes Stays mid new → new.file ≡ mid.file
    → new.said ≡ mid.said → new.reads ≡ mid.reads → mid.disk_faults ≤ new.disk_faults → new.out_faults ≡ mid.out_faults
    → Tearing ranges old new
tearing_synced ranges old mid new t goes file said reads falls out =
    let P = Reached (TearsIn ranges) old.may_leave in
    record {
      leaves = leaves_then old mid new P t.leaves (leaves_by_call Stays mid new P goes (λ c r. t.left_now c (stays_was_left mid.may_leave c r)));
      left_now = λ c left. t.left_now c (stays_was_left mid.may_leave c (goes.after c left));
      file = subst (λ f. Changes (DiffersIn ranges) old.file f) (sym file) t.file;
      said = said ∙ t.said;
      reads = reads ∙ t.reads;
      never_falls = omega (arith, t.never_falls, falls);
      out_faults = out ∙ t.out_faults;
    }
