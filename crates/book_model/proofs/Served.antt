-- What serving one touched key leaves: the key without a block, or with one in a free run.
use Rattle.std.proofs.Common.{◌≡◌, ◌≤◌, ◌⊎◌, inl, inr, ⊎_elim, ℕ, ◌+◌, ◌-◌, ◌*◌, Bool, true, false, cond, ◌==◌, Option, Some, None, Result, Ok, Err, refl, sym, ap, ◌∙◌, subst, arith}
use Rattle.std.proofs.lemmas.Nat.{mul-le}
use Rattle.std.proofs.lemmas.Bool.{eqb-true}
use Rattle.space_model.specs.Least.{log2}
use Rattle.space_model.specs.Runs.{Run, run, place}
use Rattle.space_model.specs.Apart.{In, Apart, IsRun}
use Rattle.space_model.specs.Ledger.{Placed, place_growing}
use Rattle.file_model.specs.declared.block.Packed.{Packed}
use Rattle.file_model.specs.declared.entry.Entry.{Entry}
use Rattle.write_cache.specs.declared.pending.Pending.{Pending}
use Rattle.write_cache.specs.Waiting.{state_of}
use Rattle.book_model.specs.declared.change.Change.{Change}
use Rattle.book_model.specs.Book.{held, Book, entry_run, pending_entry, IsWellFormed}
use Rattle.book_model.specs.Planning.{IsChange, without_run, with_deferred, emptied, released, grown, moved, kept_in, kept_unit, served_at, served_with, served, IsFull, serve}
use Rattle.book_model.proofs.Members.{in_append}
use Rattle.book_model.proofs.Waits.{put_in}
use Rattle.book_model.proofs.Runs.{swapped, runs_pair, run_was, run_left}
use Rattle.book_model.proofs.Released.{leaves, entry_taken, released_formed, released_held}
use Rattle.book_model.proofs.Given.{CanGive, given_formed}
use Rattle.book_model.specs.Below.{PlaceLaws}

abbrev pub ok_book : Book → Result Book ℕ
ok_book b = Ok b

pub same_book : (b c : Book) → ok_book b ≡ ok_book c → b ≡ c
same_book b c e = cc e

-- ---- with more segments

longer : (largest less more : ℕ) (r : Run) → less ≤ more → IsRun largest less r → IsRun largest more r
longer largest less more r l is = let e = is.ends in record { exp = is.exp; aligned = is.aligned; ends = omega arith }

times_more : (n s t : ℕ) → s ≤ t → n * s ≤ n * t
times_more n s t l = mul-le n s n t (omega arith) l

pub grown_formed : (n : ℕ) (b : Book) (s : ℕ) → IsWellFormed n b → b.space.segments ≤ s → s ≤ b.place.head.max_segments → IsWellFormed n (grown b s)
grown_formed n b s formed l m =
    let order = formed.order in
    let least = order.at_least in
    let parted = formed.parted in
    let more = times_more n b.space.segments s l in
    record {
      order = record {
        header = order.header;
        at_least = omega arith;
        at_most = m;
        entries = order.entries;
        taken = order.taken;
        units = order.units;
        listed = order.listed;
        deferred = order.deferred;
        hashed = order.hashed;
      };
      parted = record {
        taken_runs = λ r a. longer (log2 n) (n * b.space.segments) (n * s) r more (parted.taken_runs r a);
        deferred_runs = λ r a. longer (log2 n) (n * b.space.segments) (n * s) r more (parted.deferred_runs r a);
        taken_apart = parted.taken_apart;
        deferred_apart = parted.deferred_apart;
        beside = parted.beside;
      };
      distinct = formed.distinct;
    }

-- ---- the two ways

pub record Moves (n : ℕ) (b : Book) (c : Change) (new : Book) : Type 0 where
  pub packed : Packed
  pub next : c.next ≡ Some packed
  pub segments : ℕ
  pub unit : ℕ
  pub least : b.space.segments ≤ segments
  pub most : segments ≤ b.place.head.max_segments
  pub is_run : IsRun (log2 n) (n * segments) (run unit packed.exp)
  pub free : (r : Run) → In r (held (released b c).space) → Apart (run unit packed.exp) r
  pub is : new ≡ moved b c packed segments unit

pub record Empties (b : Book) (c : Change) (new : Book) : Type 0 where
  pub next : c.next ≡ None
  pub is : new ≡ released b c

-- the run that stays
record Stays (s : Option Pending) (exp unit : ℕ) : Type 0 where
  state : Pending
  entry : Entry
  has : s ≡ Some state
  pending : pending_entry state ≡ Some entry
  same_exp : entry.exp ≡ exp
  same_unit : entry.unit ≡ unit

kept_by : (e : Entry) (exp unit : ℕ) (t : Bool) → (e.exp == exp) ≡ t → cond t (Some e.unit) None ≡ Some unit → (e.exp ≡ exp) × (e.unit ≡ unit)
kept_by e exp unit true test is = (eqb-true e.exp exp test, cc is)
kept_by e exp unit false test is = absurd (cc is)

kept_entry : (s : Pending) (o : Option Entry) (exp unit : ℕ) → pending_entry s ≡ o → kept_in o exp ≡ Some unit → Stays (Some s) exp unit
kept_entry s None exp unit has is = absurd (cc is)
kept_entry s (Some e) exp unit has is =
    let k = kept_by e exp unit (e.exp == exp) refl is in
    record { state = s; entry = e; has = refl; pending = has; same_exp = k.0; same_unit = k.1 }

stays_by : (s : Option Pending) (exp unit : ℕ) → kept_unit s exp ≡ Some unit → Stays s exp unit
stays_by None exp unit is = absurd (cc is)
stays_by (Some s) exp unit is = kept_entry s (pending_entry s) exp unit refl is

module _ (laws : PlaceLaws) (n : ℕ) (b : Book) (c : Change) (formed : IsWellFormed n b) (can : IsChange b c) where
  kept_moves : (p : Packed) (unit : ℕ) → c.next ≡ Some p → kept_unit (state_of b.cache c.key) p.exp ≡ Some unit
      → Moves n b c (moved b c p b.space.segments unit)
  kept_moves p unit next kept =
      let k = stays_by (state_of b.cache c.key) p.exp unit kept in
      let old : c.old ≡ Some k.entry = can.pending k.state k.has ∙ k.pending in
      let leaf = leaves b c k.entry formed.order formed.distinct can old in
      let own : In (entry_run k.entry) b.space.taken = entry_taken b formed.order k.entry leaf.there in
      let same : entry_run k.entry ≡ run unit p.exp = λ i. run (k.same_unit i) (k.same_exp i) in
      record {
        packed = p;
        next = next;
        segments = b.space.segments;
        unit = unit;
        least = omega arith;
        most = formed.order.at_most;
        is_run = subst (λ r. IsRun (log2 n) (n * b.space.segments) r) same (formed.parted.taken_runs (entry_run k.entry) own);
        free = λ r a. subst (λ x. Apart x r) same (⊎_elim
            (λ t.
            let t : In r (without_run (Some k.entry) b.space.taken) = subst (λ o. In r (without_run o b.space.taken)) old t in ⊎_elim
            (λ one. absurd (run_left k.entry b.space.taken r t (ap (λ (x : Run). x.unit) one)))
            (λ apart. swapped r (entry_run k.entry) apart)
            (runs_pair b.space.taken r (entry_run k.entry) formed.parted.taken_apart (run_was (Some k.entry) b.space.taken r t) own))
            (λ d. formed.parted.beside (entry_run k.entry) r own (subst (λ o. In r (with_deferred o c.old b.space.deferred)) k.has d))
            (in_append (without_run c.old b.space.taken) (with_deferred (state_of b.cache c.key) c.old b.space.deferred) r a));
        is = refl;
      }

  placed_moves : (p : Packed) (at : Placed) → c.next ≡ Some p
      → place_growing n (held b.space) p.exp b.space.segments (b.place.head.max_segments - b.space.segments) ≡ Some at
      → Moves n b c (moved b c p at.segments at.unit)
  placed_moves p at next found =
      let first = laws.first n (held b.space) p.exp b.space.segments (b.place.head.max_segments - b.space.segments) at found in
      let least = first.least in
      let most = first.most in
      let all = formed.order.at_most in
      record {
        packed = p;
        next = next;
        segments = at.segments;
        unit = at.unit;
        least = least;
        most = omega arith;
        is_run = laws.is_run (log2 n) (n * at.segments) (held b.space) p.exp at.unit first.is_place;
        free = λ r a. laws.apart (log2 n) (n * at.segments) (held b.space) p.exp at.unit r first.is_place (released_held n b c formed can r a);
        is = refl;
      }

  moves_to : (new old : Book) → old ≡ new → Moves n b c old → Moves n b c new
  moves_to new old same m = subst (λ x. Moves n b c x) same m

  by_place : (p : Packed) (o : Option Placed) (new : Book) → c.next ≡ Some p
      → place_growing n (held b.space) p.exp b.space.segments (b.place.head.max_segments - b.space.segments) ≡ o → served_at b c p o ≡ Ok new
      → Moves n b c new
  by_place p None new next found is = absurd (cc is)
  by_place p (Some at) new next found is =
      moves_to new (moved b c p at.segments at.unit) (same_book _ new is) (placed_moves p at next found)

  by_unit : (p : Packed) (o : Option ℕ) (new : Book) → c.next ≡ Some p → kept_unit (state_of b.cache c.key) p.exp ≡ o → served_with n b c p o ≡ Ok new
      → Moves n b c new
  by_unit p (Some unit) new next kept is = moves_to new (moved b c p b.space.segments unit) (same_book _ new is) (kept_moves p unit next kept)
  by_unit p None new next kept is = by_place p _ new next refl is

  by_next : (o : Option Packed) (new : Book) → c.next ≡ o → served n b c o ≡ Ok new → Empties b c new ⊎ Moves n b c new
  by_next None new next is = inl (record { next = next; is = sym (same_book _ new is) })
  by_next (Some p) new next is = inr (by_unit p (kept_unit (state_of b.cache c.key) p.exp) new next refl is)

  pub serve_ways : (new : Book) → serve n b c ≡ Ok new → Empties b c new ⊎ Moves n b c new
  serve_ways new is = by_next c.next new refl is

  -- ---- it stays in order

  pub given_way : (new : Book) (m : Moves n b c new) → CanGive n (grown (released b c) m.segments) c.key (emptied c (state_of b.cache c.key)) m.packed m.unit
  given_way new m = record {
    waits = put_in b.cache c.key (emptied c (state_of b.cache c.key));
    empty = refl;
    hash = can.hashed;
    is_run = m.is_run;
    free = m.free;
  }

  pub way_formed : (new : Book) (m : Moves n b c new) → IsWellFormed n (grown (released b c) m.segments)
  way_formed new m = grown_formed n (released b c) m.segments (released_formed n b c formed laws.distinct can) m.least m.most

  pub serve_formed : (new : Book) → serve n b c ≡ Ok new → IsWellFormed n new
  serve_formed new is = ⊎_elim
      (λ e. subst (λ x. IsWellFormed n x) (sym e.is) (released_formed n b c formed laws.distinct can))
      (λ m. subst (λ x. IsWellFormed n x) (sym m.is)
      (given_formed n (grown (released b c) m.segments) c.key (emptied c (state_of b.cache c.key)) m.packed m.unit (way_formed new m) (given_way new m)
      laws.distinct))
      (serve_ways new is)

  -- ---- full

  full_at : (p : Packed) (exp : ℕ) (o : Option Placed)
      → place_growing n (held b.space) p.exp b.space.segments (b.place.head.max_segments - b.space.segments) ≡ o → served_at b c p o ≡ Err exp
      → (p.exp ≡ exp) × (place n b.place.head.max_segments (held b.space) exp ≡ None)
  full_at p exp (Some at) found is = absurd (cc is)
  full_at p exp None found is =
      let same : p.exp ≡ exp = cc is in
      let most = formed.order.at_most in
      let all : b.space.segments + (b.place.head.max_segments - b.space.segments) ≡ b.place.head.max_segments = omega arith in (
        same,
        subst (λ e. place n b.place.head.max_segments (held b.space) e ≡ None) same
            (subst (λ (s : ℕ). place n s (held b.space) p.exp ≡ None) all
            (laws.none n (held b.space) p.exp b.space.segments (b.place.head.max_segments - b.space.segments) found)),
      )

  full_with : (p : Packed) (exp : ℕ) (o : Option ℕ) → served_with n b c p o ≡ Err exp
      → (p.exp ≡ exp) × (place n b.place.head.max_segments (held b.space) exp ≡ None)
  full_with p exp (Some unit) is = absurd (cc is)
  full_with p exp None is = full_at p exp _ refl is

  full_next : (exp : ℕ) (o : Option Packed) → c.next ≡ o → served n b c o ≡ Err exp → IsFull n b c exp
  full_next exp None next is = absurd (cc is)
  full_next exp (Some p) next is =
      let f = full_with p exp (kept_unit (state_of b.cache c.key) p.exp) is in
      record { packed = p; next = next; exp_is = f.0; no_place = f.1 }

  pub serve_full : (exp : ℕ) → serve n b c ≡ Err exp → IsFull n b c exp
  serve_full exp is = full_next exp c.next refl is
