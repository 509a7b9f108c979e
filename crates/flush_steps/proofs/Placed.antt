-- The writes of some places, one by one.
use Rattle.std.proofs.Common.{◌≡◌, ◌≤◌, ◌<◌, ◌+◌, ◌++◌, ◌∙◌, ℕ, zero, suc, List, [], ◌∷◌, length, get_or, take, Option, Some, None, option_map, slice_get}
use Rattle.std.proofs.Common.{refl, sym, ap, subst, arith, length-append}
use Rattle.std.specs.List.{AllByRecursion}
use Rattle.std.proofs.lemmas.Bool.{or_parts}
use Rattle.std.proofs.lemmas.List.{take_more, append-nil}
use Rattle.std.proofs.lemmas.List.Elements.{filter_map-append}
use Rattle.std.proofs.lemmas.List.Sums.{fold_push}
use Rattle.std.proofs.lemmas.Option.{slice_get-get_or, slice_get_within, same_Some}
use Rattle.host_model.specs.Disk.{range, DiffersIn, written_at, WhereTold, Changes}
use Rattle.host_model.specs.Host.{Shown, IsCoherent, Goes, Tears}
use Rattle.host_model.specs.Tearing.{Tearing, IsWithin, told_before, tearing_start, tearing_more, changes_written}
use Rattle.host_model.specs.Writes.{Write, range_of, ranges_of, with_write, with_writes}
use Rattle.flush_steps.specs.Sparse.{some_of, BeginIn}

-- ---- one place more

next : (places : List (Option Write)) (i : ℕ) (o : Option Write) → slice_get places i ≡ Some o
    → some_of (take (i + 1) places) ≡ some_of (take i places) ++ some_of (o ∷ [])
next places i o e =
    let there = slice_get_within places i o e in
    let is : get_or places i o ≡ o = same_Some _ _ (sym (slice_get-get_or places i o there) ∙ e) in
    ap some_of (take_more places i o there) ∙ filter_map-append (λ p. p) (take i places) (get_or places i o ∷ [])
    ∙ ap (λ p. some_of (take i places) ++ some_of (p ∷ [])) is

pub next_none : (places : List (Option Write)) (i : ℕ) → slice_get places i ≡ Some None → some_of (take (i + 1) places) ≡ some_of (take i places)
next_none places i e = next places i None e ∙ append-nil (some_of (take i places))

pub next_some : (places : List (Option Write)) (i : ℕ) (w : Write) → slice_get places i ≡ Some (Some w)
    → some_of (take (i + 1) places) ≡ some_of (take i places) ++ w ∷ []
next_some places i w e = next places i (Some w) e

pub one_more : (places : List (Option Write)) (i : ℕ) (w : Write) → slice_get places i ≡ Some (Some w)
    → length (some_of (take (i + 1) places)) ≡ length (some_of (take i places)) + 1
one_more places i w e = ap length (next_some places i w e) ∙ length-append (some_of (take i places)) (w ∷ [])

pub no_more_than_all : (places : List (Option Write)) (n : ℕ) → length (some_of (take n places)) ≤ length (some_of places)
no_more_than_all [] zero = omega arith
no_more_than_all [] (suc n) = omega arith
no_more_than_all (p ∷ ps) zero = omega arith
no_more_than_all (None ∷ ps) (suc n) = no_more_than_all ps n
no_more_than_all (Some w ∷ ps) (suc n) = omega (arith, no_more_than_all ps n)

-- ---- the write of a place is one of them all

pub all_some : (P : Write → Type 0) (places : List (Option Write)) (i : ℕ) (w : Write) → AllByRecursion P (some_of places)
    → slice_get places i ≡ Some (Some w) → P w
all_some P [] i w all e = absurd (cc e)
all_some P (None ∷ ps) zero w all e = absurd (cc e)
all_some P (None ∷ ps) (suc i) w all e = all_some P ps i w all e
all_some P (Some v ∷ ps) zero w all e = let same : v ≡ w = cc e in subst P same all.0
all_some P (Some v ∷ ps) (suc i) w all e = all_some P ps i w all.1 e

pub range_in : (places : List (Option Write)) (i : ℕ) (w : Write) → slice_get places i ≡ Some (Some w)
    → IsWithin (range_of w) (ranges_of (some_of places))
range_in [] i w e = absurd (cc e)
range_in (None ∷ ps) zero w e = absurd (cc e)
range_in (None ∷ ps) (suc i) w e = range_in ps i w e
range_in (Some v ∷ ps) zero w e =
    let same : v ≡ w = cc e in
    subst (λ x. IsWithin (range_of x) (ranges_of (some_of (Some v ∷ ps)))) same
    (record { outside = λ k d. (or_parts _ _ d).0; reached = λ n. omega arith })
range_in (Some v ∷ ps) (suc i) w e = let r = range_in ps i w e in record {
  outside = λ k d. r.outside k (or_parts _ _ d).1;
  reached = λ n. omega (arith, r.reached n);
}

-- ---- the writes of the first places are made

-- before the first place, and at a place that has none
none_written : (o : Option (List ℕ)) → o ≡ option_map (with_writes []) o
none_written None = refl
none_written (Some f) = refl

-- a write comes behind those before it
written_more : (before after : List Write) (w : Write) (old mid new : Option (List ℕ)) → after ≡ before ++ w ∷ []
    → mid ≡ option_map (with_writes before) old → new ≡ option_map (written_at w.at w.bytes) mid → new ≡ option_map (with_writes after) old
written_more before after w None mid new e p q = q ∙ ap (option_map (written_at w.at w.bytes)) p
written_more before after w (Some f) mid new e p q =
    q ∙ ap (option_map (written_at w.at w.bytes)) p ∙ ap Some (sym (fold_push with_write f before w)) ∙ ap (λ ws. Some (with_writes ws f)) (sym e)

-- the writes of so many places were made
pub record AreMade (places : List (Option Write)) (count : ℕ) (old now : Shown) : Type 0 where
  pub written : now.file ≡ option_map (with_writes (some_of (take count places))) old.file
  pub tearing : Tearing (ranges_of (some_of places)) old now
  pub clock : now.clock ≤ old.clock + length (some_of (take count places))
  pub ok_faults : now.disk_faults ≡ old.disk_faults

pub none_made : (places : List (Option Write)) (h : Shown) → IsCoherent h → AreMade places 0 h h
none_made places h coherent = record {
  written = none_written h.file;
  tearing = tearing_start (ranges_of (some_of places)) h coherent;
  clock = omega arith;
  ok_faults = refl;
}

pub passed : (places : List (Option Write)) (i : ℕ) (old now : Shown) → slice_get places i ≡ Some None → AreMade places i old now
    → AreMade places (i + 1) old now
passed places i old now e made =
    let same = next_none places i e in
    record {
      written = made.written ∙ ap (λ ws. option_map (with_writes ws) old.file) (sym same);
      tearing = made.tearing;
      clock = omega (arith, made.clock, ap length same);
      ok_faults = made.ok_faults;
    }

module _ (places : List (Option Write)) (i : ℕ) (w : Write) (there : slice_get places i ≡ Some (Some w)) (old mid : Shown) (made : AreMade places i old mid) where
  -- the next write may be made
  pub may_write : WhereTold old.file (BeginIn (some_of places)) → WhereTold mid.file (λ f. w.at ≤ length f)
  may_write inside x told =
      let b = told_before (DiffersIn (ranges_of (some_of places))) old.file mid.file x made.tearing.file told in
      let begins = all_some (λ v. v.at ≤ length b.0) places i w (inside b.0 b.1) there in
      omega (arith, begins, b.2.no_shorter)

  module _ (new : Shown) (goes : Goes (Tears w.at (length w.bytes)) mid new) (said : new.said ≡ mid.said) (reads : new.reads ≡ mid.reads)
      (falls : mid.disk_faults ≤ new.disk_faults) (out : new.out_faults ≡ mid.out_faults) where
    -- it is torn, whatever it answers
    pub torn : Changes (DiffersIn (range w.at (length w.bytes) ∷ [])) mid.file new.file → Tearing (ranges_of (some_of places)) old new
    torn file =
        tearing_more (ranges_of (some_of places)) w.at (length w.bytes) old mid new (range_in places i w there) made.tearing goes file said reads falls out

    pub torn_clock : new.clock ≤ old.clock + length (some_of places)
    torn_clock = omega (arith, made.clock, goes.by_one, one_more places i w there, no_more_than_all places (i + 1))

    -- and it was made
    pub made_more : WhereTold old.file (BeginIn (some_of places)) → new.file ≡ option_map (written_at w.at w.bytes) mid.file
        → new.disk_faults ≡ mid.disk_faults → AreMade places (i + 1) old new
    made_more inside written faults = record {
      written = written_more (some_of (take i places)) (some_of (take (i + 1) places)) w old.file mid.file new.file (next_some places i w there) made.written written;
      tearing = torn (changes_written w.at w.bytes mid.file new.file (may_write inside) written);
      clock = omega (arith, made.clock, goes.by_one, one_more places i w there);
      ok_faults = faults ∙ made.ok_faults;
    }

-- where a place has a write, there is one at least
pub some_one : (places : List (Option Write)) (i : ℕ) (w : Write) → slice_get places i ≡ Some (Some w) → 0 < length (some_of places)
some_one [] i w e = absurd (cc e)
some_one (None ∷ ps) zero w e = absurd (cc e)
some_one (None ∷ ps) (suc i) w e = some_one ps i w e
some_one (Some v ∷ ps) i w e = omega arith
