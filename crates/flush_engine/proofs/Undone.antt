-- What was placed is undone by taking the old run again and then giving the new one back.
use Rattle.std.proofs.Common.{◌≡◌, ◌≤◌, ◌+◌, ◌-◌, ◌*◌, ℕ, zero, suc, true, List, Option, Some, None, Result, Ok, Err, ◌∙◌, ap, sym, subst, refl, arith, if◌then◌else◌, IfSome}
use Rattle.space_model.specs.Sizes.{segment_units}
use Rattle.space_model.specs.Runs.{Run, run, place}
use Rattle.space_model.specs.Apart.{In}
use Rattle.space_model.specs.Ledger.{Placed}
use Rattle.space_model.proofs.Members.{in_front}
use Rattle.file_model.specs.declared.block.Packed.{Packed}
use Rattle.file_model.specs.declared.entry.Entry.{Entry}
use Rattle.write_cache.specs.declared.pending.Pending.{Pending}
use Rattle.buddy_space.specs.SpaceState.{SpaceState, most_segments, held, is_free_run, IsParted, with_run, taking, giving}
use Rattle.buddy_space.proofs.Parted.{parted_taking, with_run_in}
use Rattle.buddy_space.proofs.States.{place_is_free_run, given_is_free, taken_after_giving, free_after_adding, free_is_run, free_is_apart}
use Rattle.book_model.specs.Book.{entry_run}
use Rattle.book_model.specs.Planning.{kept_unit}
use Rattle.flush_engine.proofs.NextSegment.{IsPlaceOf, place-of}
use Rattle.flush_engine.specs.Placing.{in_segments, place_in, placed_run, block_of, giving_up, placed_at, placed_with, Placing, reclaimed, WasPlaced}

-- ---- more segments

units-grow : (n m : ℕ) → n ≤ m → segment_units * n ≤ segment_units * m
units-grow n m l = omega (arith, l)

pub parted-grown : (s : SpaceState) (n : ℕ) → IsParted s → s.segments ≤ n → n ≤ most_segments → IsParted (in_segments n s)
parted-grown s n p l most = record {
  most = most;
  runs = λ r a.
      let i = p.runs r a in
      record { exp = i.exp; aligned = i.aligned; ends = omega (arith, i.ends, units-grow s.segments n l) };
  apart = p.apart;
  ascending = p.ascending;
}

free-added : (s : SpaceState) (r : Run) (more : ℕ) → is_free_run s r ≡ true → is_free_run (in_segments (s.segments + more) s) r ≡ true
free-added s r zero free =
    let same : s.segments ≡ s.segments + 0 = omega arith in
    subst (λ m. is_free_run (in_segments m s) r ≡ true) same free
free-added s r (suc more) free =
    let same : (s.segments + more) + 1 ≡ s.segments + suc more = omega arith in
    subst (λ m. is_free_run (in_segments m s) r ≡ true) same
    (free_after_adding (in_segments (s.segments + more) s) r (free-added s r more free))

pub free-grown : (s : SpaceState) (r : Run) (n : ℕ) → s.segments ≤ n → is_free_run s r ≡ true → is_free_run (in_segments n s) r ≡ true
free-grown s r n l free =
    let sum : s.segments + (n - s.segments) ≡ n = omega (arith, l) in
    subst (λ m. is_free_run (in_segments m s) r ≡ true) sum (free-added s r (n - s.segments) free)

-- ---- the old run

-- taken again it is where it was
pub reclaimed-given : (s : SpaceState) (r : Run) → IsParted s → In r s.taken
    → (if is_free_run (giving s r) r then taking (giving s r) r else giving s r) ≡ s
reclaimed-given s r p a =
    ap (λ b. if b then taking (giving s r) r else giving s r) (given_is_free s r p a) ∙ taken_after_giving s r p a

pub reclaimed-given_up : (old : Option Entry) (s : SpaceState) → IsParted s → IfSome old (λ e. In (entry_run e) s.taken)
    → reclaimed old (giving_up old s) ≡ s
reclaimed-given_up None s p a = refl
reclaimed-given_up (Some e) s p a = reclaimed-given s (entry_run e) p a

-- giving up and more segments go in either order
giving_up-grown : (old : Option Entry) (s : SpaceState) (n : ℕ) → in_segments n (giving_up old s) ≡ giving_up old (in_segments n s)
giving_up-grown None s n = refl
giving_up-grown (Some e) s n = refl

pub reclaimed-grown : (old : Option Entry) (s : SpaceState) (n : ℕ) → IsParted s → s.segments ≤ n → n ≤ most_segments
    → IfSome old (λ e. In (entry_run e) s.taken) → reclaimed old (in_segments n (giving_up old s)) ≡ in_segments n s
reclaimed-grown old s n p l most a =
    ap (reclaimed old) (giving_up-grown old s n) ∙ reclaimed-given_up old (in_segments n s) (parted-grown s n p l most) a

-- ---- a change without a new block

abbrev placed_err : ℕ → Result Placing ℕ
placed_err exp = Err exp

abbrev placed_ok : Placing → Result Placing ℕ
placed_ok at = Ok at

err-not-ok : (exp : ℕ) (at : Placing) → placed_err exp ≡ placed_ok at → ⊥
err-not-ok exp at is = cc

ok-same : (a b : Placing) → placed_ok a ≡ placed_ok b → a ≡ b
ok-same a b is = cc

given_up-segments : (old : Option Entry) (s : SpaceState) → (giving_up old s).segments ≡ s.segments
given_up-segments None s = refl
given_up-segments (Some e) s = refl

pub block-exp : (old : Option Entry) (s : SpaceState) → IsParted s → IfSome old (λ e. In (entry_run e) s.taken) → IfSome old (λ e. e.exp ≤ 12)
block-exp None s p a = tt
block-exp (Some e) s p a = let i = p.runs (entry_run e) (in_front s.taken s.deferred (entry_run e) a) in i.exp

pub nothing-undone : (earlier : Option Pending) (unit : ℕ) (s now : SpaceState) → WasPlaced earlier None unit s now
    → reclaimed (block_of earlier) now ≡ in_segments now.segments s
nothing-undone earlier unit s now w =
    let same = ok-same (record { space = giving_up (block_of earlier) s; unit = 0 }) w.at w.placed_so in
    let space : giving_up (block_of earlier) s ≡ w.at.space = ap (λ (p : Placing). p.space) same in
    let segments : w.at.space.segments ≡ s.segments = sym (ap (λ t. t.segments) space) ∙ given_up-segments (block_of earlier) s in
    ap (reclaimed (block_of earlier)) (w.since ∙ ap (in_segments now.segments) (sym space))
    ∙ reclaimed-grown (block_of earlier) s now.segments w.parted (omega (arith, segments, w.grown)) w.fits w.block

-- ---- a change whose new block has a place of its own

block-kept : (old : Option Entry) (r : Run) (runs : List Run) → IfSome old (λ e. In (entry_run e) runs) → IfSome old (λ e. In (entry_run e) (with_run r runs))
block-kept None r runs a = tt
block-kept (Some e) r runs a = with_run_in r runs (entry_run e) a

-- with the old run taken again the new one alone is there beside what was, and it was free
pub record IsBeside (s : SpaceState) (r : Run) (n : ℕ) (now : SpaceState) : Type 0 where
  pub beside : now ≡ taking (in_segments n s) r
  pub free : is_free_run (in_segments n s) r ≡ true

placed-beside : (old : Option Entry) (s now : SpaceState) (exp n m unit : ℕ) (at : Placing) (pl : Placed) → IsParted s → n ≤ most_segments
    → IfSome old (λ e. In (entry_run e) s.taken) → IsPlaceOf segment_units (held s) exp s.segments m pl → pl.segments ≤ n
    → record { space = giving_up old (placed_run s exp pl); unit = pl.unit } ≡ at → at.unit ≡ unit → now ≡ in_segments n at.space
    → IsBeside s (run unit exp) n (reclaimed old now)
placed-beside old s now exp n m unit at pl p most block place within same unit_is since =
    let wide = parted-grown s pl.segments p place.least (omega (arith, most, within)) in
    let free = place_is_free_run (in_segments pl.segments s) exp pl.unit place.found in
    let new = run pl.unit exp in
    let x = taking (in_segments pl.segments s) new in
    let parted : IsParted x = parted_taking (in_segments pl.segments s) new wide (free_is_run (in_segments pl.segments s) new free.0 free.1)
    (λ q a. free_is_apart (in_segments pl.segments s) new q free.1 a) in
    let unit_same : pl.unit ≡ unit = ap (λ (a : Placing). a.unit) same ∙ unit_is in
    subst (λ u. IsBeside s (run u exp) n (reclaimed old now)) unit_same (record {
      beside =
          ap (reclaimed old) (since ∙ ap (in_segments n) (sym (ap (λ (a : Placing). a.space) same)))
          ∙ reclaimed-grown old x n parted within most (block-kept old new s.taken block);
      free = free-grown (in_segments pl.segments s) new n within free.1;
    })

at-place : (old : Option Entry) (most : ℕ) (s now : SpaceState) (exp unit : ℕ) (at : Placing) (o : Option Placed) → place_in most s exp ≡ o
    → placed_at old s exp o ≡ placed_ok at → IsParted s → now.segments ≤ most_segments → IfSome old (λ e. In (entry_run e) s.taken)
    → at.space.segments ≤ now.segments → at.unit ≡ unit → now ≡ in_segments now.segments at.space
    → IsBeside s (run unit exp) now.segments (reclaimed old now)
at-place old most s now exp unit at None o so p fits block grown unit_is since = absurd (err-not-ok exp at so)
at-place old most s now exp unit at (Some pl) o so p fits block grown unit_is since =
    let same = ok-same (record { space = giving_up old (placed_run s exp pl); unit = pl.unit }) at so in
    let segments : pl.segments ≡ at.space.segments =
    sym (given_up-segments old (placed_run s exp pl)) ∙ ap (λ (a : Placing). a.space.segments) same in
    placed-beside old s now exp now.segments (s.segments + (most - s.segments)) unit at pl p fits block
    (place-of segment_units (held s) exp s.segments (most - s.segments) pl (place segment_units s.segments (held s) exp) refl o)
    (omega (arith, segments, grown)) same unit_is since

pub moved-undone : (earlier : Option Pending) (p : Packed) (unit : ℕ) (s now : SpaceState) → kept_unit earlier p.exp ≡ None
    → WasPlaced earlier (Some p) unit s now → IsBeside s (run unit p.exp) now.segments (reclaimed (block_of earlier) now)
moved-undone earlier p unit s now none w =
    at-place (block_of earlier) w.most s now p.exp unit w.at (place_in w.most s p.exp) refl
    (ap (placed_with w.most (block_of earlier) s p.exp) (sym none) ∙ w.placed_so) w.parted w.fits w.block w.grown w.unit_is w.since
