-- The best piece of a range from those of its two parts.
use Rattle.std.proofs.Common.{◌≡◌, ◌≤◌, ◌<◌, ◌⊎◌, inl, inr, ⊎_elim, ℕ, Bool, true, false, cond, List, Option, Some, None, refl}
use Rattle.std.proofs.Common.{arith}
use Rattle.std.specs.Prelude.{nat_lt}
use Rattle.std.proofs.lemmas.Nat.{pow_pos}
use Rattle.std.proofs.lemmas.Bool.{cases_lt, ltb-true, ltb-false}
use Rattle.space_model.specs.Runs.{Run, end_of}
use Rattle.space_model.specs.Apart.{Precedes}
use Rattle.buddy_space.specs.declared.marks.Mark.{Mark}
use Rattle.buddy_space.specs.declared.marks.Run.{Run as UnitRun}
use Rattle.buddy_space.specs.Marks.{run_of}
use Rattle.buddy_space.specs.Pieces.{IsPiece, IsFirst, IsBest, better}

abbrev pub Splits : ℕ → List Mark → ℕ → ℕ → ℕ → Type 0
Splits top marks from mid end = (q : Run) → IsPiece top marks q → from ≤ q.unit → end_of q ≤ end → (end_of q ≤ mid) ⊎ (mid ≤ q.unit)

none_lower : (top : ℕ) (marks : List Mark) (wanted from mid end : ℕ) (r : Run) → from ≤ mid → Splits top marks from mid end
    → IsBest top marks wanted from mid None → IsFirst top marks wanted mid end r → IsFirst top marks wanted from end r
none_lower top marks wanted from mid end r low splits none f =
    let b = f.begins in record {
      enough = f.enough;
      begins = omega (arith, low, b);
      ends = f.ends;
      piece = f.piece;
      first = λ q piece enough begins ends. ⊎_elim
          (λ lower. absurd (none q piece enough begins lower)) (λ upper. f.first q piece enough upper ends) (splits q piece begins ends);
    }

none_upper : (top : ℕ) (marks : List Mark) (wanted from mid end : ℕ) (r : Run) → mid ≤ end → Splits top marks from mid end
    → IsFirst top marks wanted from mid r → IsBest top marks wanted mid end None → IsFirst top marks wanted from end r
none_upper top marks wanted from mid end r high splits f none =
    let b = f.ends in record {
      enough = f.enough;
      begins = f.begins;
      ends = omega (arith, high, b);
      piece = f.piece;
      first = λ q piece enough begins ends. ⊎_elim
          (λ lower. f.first q piece enough begins lower) (λ upper. absurd (none q piece enough upper ends)) (splits q piece begins ends);
    }

smaller_first : (r l q : Run) → r.exp < l.exp → Precedes l q → Precedes r q
smaller_first r l q less p = ⊎_elim (λ (x : l.exp < q.exp). inl (omega (arith, less, x))) (λ x. let e = x.0 in inl (omega (arith, less, e))) p

lower_first : (top : ℕ) (marks : List Mark) (wanted from mid end : ℕ) (l u : Run) → mid ≤ end → Splits top marks from mid end
    → IsFirst top marks wanted from mid l → IsFirst top marks wanted mid end u → l.exp ≤ u.exp → IsFirst top marks wanted from end l
lower_first top marks wanted from mid end l u high splits f g less =
    let b = f.ends in
    let c = pow_pos l.exp in
    record {
      enough = f.enough;
      begins = f.begins;
      ends = omega (arith, high, b);
      piece = f.piece;
      first = λ q piece enough begins ends. ⊎_elim
          (λ lower. f.first q piece enough begins lower)
          (λ (upper : mid ≤ q.unit). ⊎_elim
          (λ (x : u.exp < q.exp). inl (omega (arith, less, x)))
          (λ x. let e = x.0 in ⊎_elim
          (λ (y : l.exp < q.exp). inl y) (λ (y : q.exp ≤ l.exp). inr (omega (arith, less, e, y), omega (arith, b, upper))) (cases_lt l.exp q.exp))
          (g.first q piece enough upper ends)) (splits q piece begins ends);
    }

upper_first : (top : ℕ) (marks : List Mark) (wanted from mid end : ℕ) (l u : Run) → from ≤ mid → Splits top marks from mid end
    → IsFirst top marks wanted from mid l → IsFirst top marks wanted mid end u → u.exp < l.exp → IsFirst top marks wanted from end u
upper_first top marks wanted from mid end l u low splits f g less =
    let b = g.begins in record {
      enough = g.enough;
      begins = omega (arith, low, b);
      ends = g.ends;
      piece = g.piece;
      first = λ q piece enough begins ends. ⊎_elim
          (λ lower. smaller_first u l q less (f.first q piece enough begins lower))
          (λ upper. g.first q piece enough upper ends) (splits q piece begins ends);
    }

chosen : (top : ℕ) (marks : List Mark) (wanted from mid end : ℕ) (l u : UnitRun) (b : Bool) → nat_lt u.exp l.exp ≡ b → from ≤ mid → mid ≤ end
    → Splits top marks from mid end → IsFirst top marks wanted from mid (run_of l) → IsFirst top marks wanted mid end (run_of u)
    → IsBest top marks wanted from end (cond b (Some u) (Some l))
chosen top marks wanted from mid end l u true is low high splits f g =
    upper_first top marks wanted from mid end (run_of l) (run_of u) low splits f g (ltb-true u.exp l.exp is)
chosen top marks wanted from mid end l u false is low high splits f g =
    lower_first top marks wanted from mid end (run_of l) (run_of u) high splits f g (ltb-false u.exp l.exp is)

pub best_of_both : (top : ℕ) (marks : List Mark) (wanted from mid end : ℕ) (lower upper : Option UnitRun) → from ≤ mid → mid ≤ end
    → Splits top marks from mid end → IsBest top marks wanted from mid lower → IsBest top marks wanted mid end upper
    → IsBest top marks wanted from end (better lower upper)
best_of_both top marks wanted from mid end None None low high splits f g = λ q piece enough begins ends. ⊎_elim
    (λ lower. f q piece enough begins lower) (λ upper. g q piece enough upper ends) (splits q piece begins ends)
best_of_both top marks wanted from mid end None (Some u) low high splits f g = none_lower top marks wanted from mid end (run_of u) low splits f g
best_of_both top marks wanted from mid end (Some l) None low high splits f g = none_upper top marks wanted from mid end (run_of l) high splits f g
best_of_both top marks wanted from mid end (Some l) (Some u) low high splits f g =
    chosen top marks wanted from mid end l u (nat_lt u.exp l.exp) refl low high splits f g
