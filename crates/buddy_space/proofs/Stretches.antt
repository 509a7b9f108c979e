-- The pieces of a stretch of free units, one behind the other.
use Rattle.std.proofs.Common.{◌≡◌, ◌≤◌, ◌<◌, ◌≢◌, ◌⊎◌, inl, inr, ⊎_elim, ℕ, ◌+◌, ◌%◌, ◌^◌, Bool, true, false, cond, List, length, Option, Some, None}
use Rattle.std.proofs.Common.{refl, sym, subst, arith}
use Rattle.std.specs.Prelude.{nat_le}
use Rattle.std.proofs.Math.Pow.{pow_mono}
use Rattle.std.proofs.lemmas.Nat.{pow_pos}
use Rattle.std.proofs.lemmas.Bool.{cases_lt, leb-true}
use Rattle.space_model.specs.Runs.{Run, run, end_of}
use Rattle.space_model.proofs.Minima.{next_power}
use Rattle.buddy_space.specs.declared.marks.Mark.{Mark}
use Rattle.buddy_space.specs.declared.marks.Mark.TheVariants.{Free}
use Rattle.buddy_space.specs.declared.marks.Run.{Run as UnitRun}
use Rattle.buddy_space.specs.Marks.{mark_at, AreFree, run_of}
use Rattle.buddy_space.specs.Pieces.{IsPiece, IsFirst, IsBest, better, with_piece, IsCut, IsFreeUntil, IsStretch}
use Rattle.buddy_space.proofs.Freed.{ends_within}
use Rattle.buddy_space.proofs.Nests.{nests, begins_aligned}
use Rattle.buddy_space.proofs.Ranges.{Splits, best_of_both}

-- ---- one piece

larger_than : (q p : Run) → p.unit ≤ q.unit → end_of q ≤ end_of p → q.exp ≤ p.exp
larger_than q p low high = ⊎_elim
    (λ (x : p.exp < q.exp). let more : 2 ^ (p.exp + 1) ≤ 2 ^ q.exp = pow_mono (omega (arith, x)) in
    let next = next_power p.exp in
    let some = pow_pos p.exp in
    omega (arith, more, next, some, low, high))
    (λ x. x) (cases_lt p.exp q.exp)

-- a piece that lies in another is that one
same_exp : (marks : List Mark) (q p : Run) → IsPiece 12 marks q → IsPiece 12 marks p → p.unit ≤ q.unit → end_of q ≤ end_of p → q.exp ≡ p.exp
same_exp marks q p piece is low high = ⊎_elim
    (λ (x : q.exp < p.exp). absurd (piece.maximal p is.exp is.aligned x low high is.free))
    (λ (x : p.exp ≤ q.exp). let fits = larger_than q p low high in omega (arith, x, fits)) (cases_lt q.exp p.exp)

lone_first : (marks : List Mark) (wanted : ℕ) (p : Run) → IsPiece 12 marks p → wanted ≤ p.exp → IsFirst 12 marks wanted p.unit (end_of p) p
lone_first marks wanted p is enough = record {
  enough = enough;
  begins = omega arith;
  ends = omega arith;
  piece = is;
  first = λ q piece large low high. inr (sym (same_exp marks q p piece is low high), low);
}

lone_none : (marks : List Mark) (wanted : ℕ) (p : Run) → IsPiece 12 marks p → (p.exp < wanted) → IsBest 12 marks wanted p.unit (end_of p) None
lone_none marks wanted p is small q piece large low high = let same = same_exp marks q p piece is low high in omega (arith, same, large, small)

-- ---- a cut behind a piece

-- the next larger run from a unit on is not aligned, not free or too large
pub record IsLargest (marks : List Mark) (unit exp : ℕ) : Type 0 where
  pub none_larger : exp + 1 ≤ 12 → unit % 2 ^ (exp + 1) ≡ 0 → AreFree marks (run unit (exp + 1)) → ⊥

larger_free : (marks : List Mark) (q : Run) (unit exp : ℕ) → q.unit ≡ unit → exp ≤ q.exp → AreFree marks q → AreFree marks (run unit exp)
larger_free marks q unit exp same less free u low high =
    let more : 2 ^ exp ≤ 2 ^ q.exp = pow_mono less in
    free u (omega (arith, same, low)) (omega (arith, same, high, more))

-- no larger free run begins there
none_begins : (marks : List Mark) (q : Run) (unit exp : ℕ) → IsLargest marks unit exp → q.exp ≤ 12 → q.unit % 2 ^ q.exp ≡ 0 → AreFree marks q → q.unit ≡ unit
    → exp < q.exp → ⊥
none_begins marks q unit exp is fits aligned free same more =
    is.none_larger (omega (arith, fits, more))
    (subst (λ u. u % 2 ^ (exp + 1) ≡ 0) same (begins_aligned q (exp + 1) aligned (omega (arith, more))))
    (larger_free marks q unit (exp + 1) same (omega (arith, more)) free)

-- a larger run that has the piece begins with it
begins_with : (marks : List Mark) (q p : Run) → IsCut marks p.unit → q.exp ≤ 12 → q.unit % 2 ^ q.exp ≡ 0 → AreFree marks q → q.unit ≤ p.unit
    → end_of p ≤ end_of q → q.unit ≡ p.unit
begins_with marks q p cut fits aligned free low high =
    let some = pow_pos p.exp in ⊎_elim
    (λ (x : end_of q ≤ p.unit). absurd (omega (arith, x, high, some))) (λ (x : p.unit ≤ q.unit). omega (arith, x, low)) (cut q fits aligned free)

is_piece : (marks : List Mark) (p : Run) → p.exp ≤ 12 → p.unit % 2 ^ p.exp ≡ 0 → AreFree marks p → IsCut marks p.unit → IsLargest marks p.unit p.exp
    → IsPiece 12 marks p
is_piece marks p fits aligned free cut largest = record {
  exp = fits;
  aligned = aligned;
  free = free;
  maximal = λ q most a more low high all.
      none_begins marks q p.unit p.exp largest most a all (begins_with marks q p cut most a all low high) more;
}

cut_behind : (marks : List Mark) (p : Run) → p.unit % 2 ^ p.exp ≡ 0 → IsCut marks p.unit → IsLargest marks p.unit p.exp → IsCut marks (end_of p)
cut_behind marks p aligned cut largest q fits a free = ⊎_elim
    (λ (x : end_of q ≤ p.unit). inl (omega (arith, x)))
    (λ (x : p.unit ≤ q.unit). ⊎_elim
    (λ (y : p.exp < q.exp). ⊎_elim
    (λ apart. ⊎_elim (λ (z : end_of p ≤ q.unit). inr z) (λ (z : end_of q ≤ p.unit). inl (omega (arith, z))) apart)
    (λ within. let low = within.0 in
    absurd (none_begins marks q p.unit p.exp largest fits a free (omega (arith, x, low)) y))
    (nests p q aligned a (omega (arith, y))))
    (λ (y : q.exp ≤ p.exp). ⊎_elim
    (λ apart. ⊎_elim
    (λ (z : end_of q ≤ p.unit). inl (omega (arith, z))) (λ (z : end_of p ≤ q.unit). inr z) apart)
    (λ within. inl within.1)
    (nests q p a aligned y))
    (cases_lt p.exp q.exp))
    (cut q fits a free)

-- ---- one piece more

with_step : (marks : List Mark) (wanted first : ℕ) (best : Option UnitRun) (p : UnitRun) (b : Bool) → nat_le wanted p.exp ≡ b → first ≤ p.unit
    → Splits 12 marks first p.unit (end_of (run_of p)) → IsPiece 12 marks (run_of p) → IsBest 12 marks wanted first p.unit best
    → IsBest 12 marks wanted first (end_of (run_of p)) (cond b (better best (Some p)) best)
with_step marks wanted first best p true is low splits piece f =
    best_of_both 12 marks wanted first p.unit (end_of (run_of p)) best (Some p) low (omega arith) splits f
    (lone_first marks wanted (run_of p) piece (leb-true wanted p.exp is))
with_step marks wanted first best p false is low splits piece f =
    subst (λ b. IsBest 12 marks wanted first (end_of (run_of p)) b) (nothing_above best)
    (best_of_both 12 marks wanted first p.unit (end_of (run_of p)) best None low (omega arith) splits f
    (lone_none marks wanted (run_of p) piece (below wanted p.exp is)))
  where
    below : (a b : ℕ) → nat_le a b ≡ false → b < a
    below a b e = grind arith

    nothing_above : (best : Option UnitRun) → better best None ≡ best
    nothing_above None = refl
    nothing_above (Some l) = refl

-- what holds of a stretch up to a unit
pub record IsSearched (marks : List Mark) (wanted first unit : ℕ) (found : Option UnitRun) : Type 0 where
  pub cut : IsCut marks unit
  pub best : IsBest 12 marks wanted first unit found

pub none_searched : (marks : List Mark) (wanted first end : ℕ) → IsStretch marks first end → IsSearched marks wanted first first None
none_searched marks wanted first end is = record {
  cut = is.cut;
  best = λ q piece large low high. let some = pow_pos q.exp in omega (arith, low, high, some);
}

pub piece_searched : (marks : List Mark) (wanted first end unit exp : ℕ) (best : Option UnitRun) → IsStretch marks first end → first ≤ unit → exp ≤ 12
    → unit % 2 ^ exp ≡ 0 → unit + 2 ^ exp ≤ end → (exp ≡ 12) ⊎ ((unit % 2 ^ (exp + 1) ≢ 0) ⊎ (end < unit + 2 ^ (exp + 1)))
    → IsSearched marks wanted first unit best → IsSearched marks wanted first (unit + 2 ^ exp) (with_piece best (record { unit = unit; exp = exp }) wanted)
piece_searched marks wanted first end unit exp best is low fits aligned ends largest s =
    let piece = is_piece marks (run unit exp) fits aligned free s.cut most in record {
      cut = cut_behind marks (run unit exp) aligned s.cut most;
      best = with_step marks wanted first best (record { unit = unit; exp = exp }) (nat_le wanted exp) refl low
          (λ q other begins ends. s.cut q other.exp other.aligned other.free) piece s.best;
    }
  where
    free : AreFree marks (run unit exp)
    free u a b = is.until.free u (omega (arith, low, a)) (omega (arith, b, ends))

    most : IsLargest marks unit exp
    most = record {
      none_larger = λ more a all. ⊎_elim
          (λ (x : exp ≡ 12). omega (arith, x, more))
          (λ o. ⊎_elim
          (λ other. other a)
          (λ (x : end < unit + 2 ^ (exp + 1)). is.until.ends (all end (let some = pow_pos exp in omega (arith, ends, some)) x)) o)
          largest;
    }

-- ---- one stretch more

pub record IsFound (marks : List Mark) (wanted unit : ℕ) (found : Option UnitRun) : Type 0 where
  pub cut : IsCut marks unit
  pub best : IsBest 12 marks wanted 0 unit found

pub none_found : (marks : List Mark) (wanted : ℕ) → IsFound marks wanted 0 None
none_found marks wanted = record {
  cut = λ q fits a free. inr (omega arith);
  best = λ q piece large low high. let some = pow_pos q.exp in omega (arith, high, some);
}

-- a run of free units has none that is not free
beside : (marks : List Mark) (end : ℕ) (q : Run) → (mark_at marks end ≡ Free → ⊥) → AreFree marks q → (end_of q ≤ end) ⊎ (end + 1 ≤ q.unit)
beside marks end q held free = ⊎_elim
    (λ (x : end < q.unit). inr (omega (arith, x)))
    (λ (x : q.unit ≤ end). ⊎_elim
    (λ (y : end < end_of q). absurd (held (free end x y))) (λ (y : end_of q ≤ end). inl y) (cases_lt end (end_of q)))
    (cases_lt end q.unit)

wider_best : (marks : List Mark) (wanted end : ℕ) (best : Option UnitRun) → (mark_at marks end ≡ Free → ⊥) → IsBest 12 marks wanted 0 end best
    → IsBest 12 marks wanted 0 (end + 1) best
wider_best marks wanted end None held none = λ q piece large low high. none q piece large low (shorter q piece high)
  where
    shorter : (q : Run) → IsPiece 12 marks q → end_of q ≤ end + 1 → end_of q ≤ end
    shorter q piece high = let some = pow_pos q.exp in
        ⊎_elim (λ x. x) (λ (x : end + 1 ≤ q.unit). absurd (omega (arith, x, high, some))) (beside marks end q held piece.free)
wider_best marks wanted end (Some r) held f = let ends = f.ends in record {
  enough = f.enough;
  begins = f.begins;
  ends = omega (arith, ends);
  piece = f.piece;
  first = λ q piece large low high. f.first q piece large low
      (let some = pow_pos q.exp in
      ⊎_elim (λ x. x) (λ (x : end + 1 ≤ q.unit). absurd (omega (arith, x, high, some))) (beside marks end q held piece.free));
}

pub stretch_found : (marks : List Mark) (wanted unit end : ℕ) (best found : Option UnitRun) → unit ≤ end → IsFreeUntil marks unit end → IsFound marks wanted unit best
    → (IsStretch marks unit end → IsBest 12 marks wanted unit end found) → IsFound marks wanted (end + 1) (better best found)
stretch_found marks wanted unit end best found low until is more = record {
  cut = λ q fits a free. ⊎_elim (λ x. inl (omega (arith, x))) (λ x. inr x) (beside marks end q until.ends free);
  best = wider_best marks wanted end (better best found) until.ends
      (best_of_both 12 marks wanted 0 unit end best found (omega arith) low (λ q piece begins ends. is.cut q piece.exp piece.aligned piece.free) is.best
      (more (record { cut = is.cut; until = until })));
}

pub all_found : (marks : List Mark) (wanted unit : ℕ) (best : Option UnitRun) → length marks ≤ unit → IsFound marks wanted unit best
    → IsBest 12 marks wanted 0 (length marks) best
all_found marks wanted unit None long is = λ q piece large low high. is.best q piece large low (omega (arith, long, high))
all_found marks wanted unit (Some r) long is = record {
  enough = is.best.enough;
  begins = is.best.begins;
  ends = ends_within marks (run_of r) is.best.piece.free;
  piece = is.best.piece;
  first = λ q piece large low high. is.best.first q piece large low (omega (arith, long, high));
}
