-- The changes of a command are placed where its book places them.
use Rattle.std.proofs.Common.{◌≡◌, ◌⊎◌, inl, inr, ⊎_elim, ℕ, ◌-◌, ◌*◌, Bool, true, false, cond, ◌==◌, List, [], ◌∷◌, ◌++◌, Option, Some, None, Result, Ok, Err, refl, sym, ap, ◌∙◌, subst}
use Rattle.std.proofs.lemmas.Bool.{eqb-true}
use Rattle.std.specs.Prelude.{bytes_eq}
use Rattle.space_model.specs.Least.{log2}
use Rattle.space_model.specs.Sizes.{segment_units}
use Rattle.space_model.specs.Runs.{Run, run}
use Rattle.space_model.specs.Apart.{In, Apart, Pairs}
use Rattle.space_model.specs.Ledger.{Placed, place_growing}
use Rattle.space_model.proofs.Places.{place_is_run, place_is_apart}
use Rattle.space_model.proofs.Reordered.{place_same}
use Rattle.space_model.proofs.Serving.{grows, full_at_last}
use Rattle.file_model.specs.declared.block.Packed.{Packed}
use Rattle.file_model.specs.declared.entry.Entry.{Entry}
use Rattle.file_model.specs.declared.head.Located.{Located}
use Rattle.write_cache.specs.declared.pending.Pending.{Pending}
use Rattle.write_cache.specs.Waiting.{Waiting, state_of, with_state}
use Rattle.write_cache.proofs.Order.{last_state, other_states, distinct_kept}
use Rattle.write_cache.proofs.LedgerLists.{ledger_of-with_state, packed_of-ledger_of}
use Rattle.buddy_space.specs.SpaceState.{SpaceState, without, with_run, taking, held as space_held}
use Rattle.buddy_space.proofs.Parted.{in_with_run, with_run_in, with_run_new, in_without, not_in_without}
use Rattle.buddy_space.proofs.Changes.{same_or_in}
use Rattle.book_model.specs.declared.change.Change.{Change}
use Rattle.book_model.specs.Book.{held, Book, entry_run, pending_entry, IsWellFormed}
use Rattle.book_model.specs.Planning.{IsChange, without_run, with_deferred, stands_for, emptied, released, moved, kept_in, kept_unit, served_at, served_with, served, serve, OtherKey, OtherEntry, AreChanges, after_served, serve_all}
use Rattle.book_model.specs.Below.{PlaceLaws, LedgerLaws}
use Rattle.book_model.proofs.Members.{append_in, in_append}
use Rattle.book_model.proofs.Runs.{not_apart, runs_pair, run_left, run_stays}
use Rattle.book_model.proofs.Released.{leaves, entry_taken, released_held}
use Rattle.book_model.proofs.LedgerMoves.{growing_same}
use Rattle.book_model.proofs.Waits.{flips}
use Rattle.book_model.proofs.Served.{serve_formed}
use Rattle.book_model.proofs.Commands.{other_state, same_place, carries, all_kept}
use Rattle.flush_engine.specs.Placing.{in_segments, place_in, placed_run, Placing, block_of, giving_up, placed_at, placed_with, placed, Places, with_unit, then_placed, all_placed}
use Rattle.flush_engine.specs.Ahead.{IsAhead, HasUnit, Matches}

-- ---- a run is taken, or given up

taken_from : (s : SpaceState) (r q : Run) → In q (space_held (taking s r)) → (r ≡ q) ⊎ In q (space_held s)
taken_from s r q a = ⊎_elim
    (λ t. ⊎_elim (λ new. inl new) (λ old. inr (append_in s.taken s.deferred q (inl old))) (in_with_run r s.taken q t))
    (λ d. inr (append_in s.taken s.deferred q (inr d)))
    (in_append (with_run r s.taken) s.deferred q a)

taken_back : (s : SpaceState) (r q : Run) → (r ≡ q) ⊎ In q (space_held s) → In q (space_held (taking s r))
taken_back s r q a = append_in (with_run r s.taken) s.deferred q (⊎_elim
    (λ new. inl (subst (λ x. In x (with_run r s.taken)) new (with_run_new r s.taken)))
    (λ old. ⊎_elim (λ t. inl (with_run_in r s.taken q t)) (λ d. inr d) (in_append s.taken s.deferred q old))
    a)

-- a run that is not the one of this entry
abbrev pub NotOf : Option Entry → Run → Type 0
NotOf o q = (e : Entry) → o ≡ Some e → entry_run e ≡ q → ⊥

giving_from : (o : Option Entry) (s : SpaceState) (q : Run) → ((e : Entry) → o ≡ Some e → In (entry_run e) s.deferred → ⊥)
    → In q (space_held (giving_up o s)) → In q (space_held s) × NotOf o q
giving_from None s q not a = (a, λ e is. absurd (cc is))
giving_from (Some e) s q not a = ⊎_elim
    (λ t. (
      append_in s.taken s.deferred q (inl (in_without (entry_run e) s.taken q t)),
      λ x is same. let one : e ≡ x = cc is in not_in_without (entry_run e) s.taken q t (ap entry_run one ∙ same),
    ))
    (λ d. (append_in s.taken s.deferred q (inr d), λ x is same. not x is (subst (λ z. In z s.deferred) (sym same) d)))
    (in_append (without (entry_run e) s.taken) s.deferred q a)

giving_back : (o : Option Entry) (s : SpaceState) (q : Run) → NotOf o q → In q (space_held s) → In q (space_held (giving_up o s))
giving_back None s q other a = a
giving_back (Some e) s q other a = append_in (without (entry_run e) s.taken) s.deferred q (⊎_elim
    (λ t. ⊎_elim (λ same. absurd (other e refl same)) (λ old. inl old) (same_or_in (entry_run e) s.taken q t))
    (λ d. inr d)
    (in_append s.taken s.deferred q a))

giving_segments : (o : Option Entry) (s : SpaceState) → (giving_up o s).segments ≡ s.segments
giving_segments None s = refl
giving_segments (Some e) s = refl

giving_deferred : (o : Option Entry) (s : SpaceState) → (giving_up o s).deferred ≡ s.deferred
giving_deferred None s = refl
giving_deferred (Some e) s = refl

-- ---- a block that stays

kept_by : (e : Entry) (exp unit : ℕ) (t : Bool) → (e.exp == exp) ≡ t → cond t (Some e.unit) None ≡ Some unit → (e.exp ≡ exp) × (e.unit ≡ unit)
kept_by e exp unit true test is = (eqb-true e.exp exp test, cc is)
kept_by e exp unit false test is = absurd (cc is)

record Stays (o : Option Entry) (r : Run) : Type 0 where
  entry : Entry
  has : o ≡ Some entry
  same : entry_run entry ≡ r

kept_entry : (o : Option Entry) (exp unit : ℕ) → kept_in o exp ≡ Some unit → Stays o (run unit exp)
kept_entry None exp unit is = absurd (cc is)
kept_entry (Some e) exp unit is =
    let k = kept_by e exp unit (e.exp == exp) refl is in
    record { entry = e; has = refl; same = λ i. run (k.1 i) (k.0 i) }

stays_by : (earlier : Option Pending) (exp unit : ℕ) → kept_unit earlier exp ≡ Some unit → Stays (block_of earlier) (run unit exp)
stays_by None exp unit is = absurd (cc is)
stays_by (Some s) exp unit is = kept_entry (pending_entry s) exp unit is

-- ---- one change

deferred_more : (earlier : Option Pending) (o : Option Entry) (runs : List Run) (q : Run) → In q runs → In q (with_deferred earlier o runs)
deferred_more (Some s) o runs q a = a
deferred_more None None runs q a = a
deferred_more None (Some e) runs q a = append_in runs (entry_run e ∷ []) q (inl a)

-- a change is placed where the book places it, or both are full for the same exponent
abbrev pub Steps : Change → Waiting → Result Placing ℕ → Result Book ℕ → Type 0
Steps c w (Ok at) (Ok new) = IsAhead new at.space × HasUnit w new.cache c at.unit
Steps c w (Ok at) (Err y) = ⊥
Steps c w (Err x) (Ok new) = ⊥
Steps c w (Err x) (Err y) = x ≡ y

module _ (laws : PlaceLaws) (known : LedgerLaws) (b : Book) (s : SpaceState) (w : Waiting) (c : Change) (formed : IsWellFormed segment_units b)
    (can : IsChange b c) (waits : state_of w c.key ≡ state_of b.cache c.key) (ahead : IsAhead b s) where
  abbrev earlier : Option Pending
  earlier = state_of b.cache c.key

  own_taken : (e : Entry) → c.old ≡ Some e → In (entry_run e) b.space.taken
  own_taken e is = entry_taken b formed.order e (leaves b c e formed.order formed.distinct can is).there

  own_held : (e : Entry) → c.old ≡ Some e → In (entry_run e) (held b.space)
  own_held e is = append_in b.space.taken b.space.deferred (entry_run e) (inl (own_taken e is))

  not_deferred : (e : Entry) → c.old ≡ Some e → In (entry_run e) b.space.deferred → ⊥
  not_deferred e is d = not_apart (entry_run e) (entry_run e) refl (formed.parted.beside (entry_run e) (entry_run e) (own_taken e is) d)

  block_old : (o : Option Pending) (e : Entry) → state_of b.cache c.key ≡ o → block_of o ≡ Some e → c.old ≡ Some e
  block_old None e has is = absurd (cc is)
  block_old (Some t) e has is = can.pending t has ∙ is

  not_later : (e : Entry) → block_of earlier ≡ Some e → In (entry_run e) s.deferred → ⊥
  not_later e is d = not_deferred e (block_old earlier e refl is) (ahead.deferred (entry_run e) d)

  -- ---- what the book gives up

  left_by : (o : Option Pending) (e : Entry) → state_of b.cache c.key ≡ o → block_of o ≡ Some e
      → In (entry_run e) (without_run c.old b.space.taken ++ with_deferred o c.old b.space.deferred) → ⊥
  left_by None e has is a = absurd (cc is)
  left_by (Some t) e has is a =
      let old : c.old ≡ Some e = can.pending t has ∙ is in ⊎_elim
      (λ f. run_left e b.space.taken (entry_run e) (subst (λ o. In (entry_run e) (without_run o b.space.taken)) old f) refl)
      (λ d. not_deferred e old d)
      (in_append (without_run c.old b.space.taken) b.space.deferred (entry_run e) a)

  released_from : (q : Run) → In q (held (released b c).space) → In q (held b.space) × NotOf (block_of earlier) q
  released_from q a = (
    released_held segment_units b c formed can q a,
    λ e is same. left_by earlier e refl is (subst (λ z. In z (held (released b c).space)) (sym same) a),
  )

  stays_taken : (e : Entry) (q : Run) → In q b.space.taken → Apart q (entry_run e) → In q (without_run (Some e) b.space.taken)
  stays_taken e q f apart = run_stays (Some e) b.space.taken q f (λ x is same.
      let one : e ≡ x = cc is in not_apart q (entry_run e) (same ∙ ap (λ (y : Entry). y.unit) (sym one)) apart)

  front_by : (o : Option Pending) (old : Option Entry) (q : Run) → state_of b.cache c.key ≡ o → c.old ≡ old → NotOf (block_of o) q → In q b.space.taken
      → In q (without_run old b.space.taken) ⊎ In q (with_deferred o old b.space.deferred)
  front_by o None q has is other f = inl f
  front_by (Some t) (Some e) q has is other f = ⊎_elim
      (λ same. absurd (other e (sym (can.pending t has) ∙ is) (sym same)))
      (λ apart. inl (stays_taken e q f apart))
      (runs_pair b.space.taken q (entry_run e) formed.parted.taken_apart f (own_taken e is))
  front_by None (Some e) q has is other f = ⊎_elim
      (λ same. inr (append_in b.space.deferred (entry_run e ∷ []) q (inr (inl (sym same)))))
      (λ apart. inl (stays_taken e q f apart))
      (runs_pair b.space.taken q (entry_run e) formed.parted.taken_apart f (own_taken e is))

  released_back : (q : Run) → NotOf (block_of earlier) q → In q (held b.space) → In q (held (released b c).space)
  released_back q other a = append_in (without_run c.old b.space.taken) (with_deferred earlier c.old b.space.deferred) q (⊎_elim
      (λ f. front_by earlier c.old q refl refl other f)
      (λ d. inr (deferred_more earlier c.old b.space.deferred q d))
      (in_append b.space.taken b.space.deferred q a))

  later_deferred : (t : SpaceState) → t.deferred ≡ s.deferred → (r : Run) → In r (giving_up (block_of earlier) t).deferred → In r (released b c).space.deferred
  later_deferred t same r a = deferred_more earlier c.old b.space.deferred r
      (ahead.deferred r (subst (λ rs. In r rs) (giving_deferred (block_of earlier) t ∙ same) a))

  released_ahead : IsAhead (released b c) (giving_up (block_of earlier) s)
  released_ahead = record {
    segments = giving_segments (block_of earlier) s ∙ ahead.segments;
    held = record {
      there = λ q a. let f = giving_from (block_of earlier) s q not_later a in released_back q f.1 (ahead.held.there q f.0);
      back = λ q a. let f = released_from q a in giving_back (block_of earlier) s q f.1 (ahead.held.back q f.0);
    };
    deferred = later_deferred s refl;
  }

  -- ---- a block that stays

  own_or_other : (e : Entry) (q : Run) → c.old ≡ Some e → In q (held b.space) → (entry_run e ≡ q) ⊎ (entry_run e ≡ q → ⊥)
  own_or_other e q is a = ⊎_elim
      (λ f. ⊎_elim
      (λ same. inl (sym same))
      (λ apart. inr (λ same. not_apart q (entry_run e) (ap (λ (x : Run). x.unit) (sym same)) apart))
      (runs_pair b.space.taken q (entry_run e) formed.parted.taken_apart f (own_taken e is)))
      (λ d. inr (λ same. not_deferred e is (subst (λ z. In z b.space.deferred) (sym same) d)))
      (in_append b.space.taken b.space.deferred q a)

  kept_ahead : (p : Packed) (unit : ℕ) → kept_unit earlier p.exp ≡ Some unit → IsAhead (moved b c p b.space.segments unit) s
  kept_ahead p unit kept =
      let k = stays_by earlier p.exp unit kept in
      let old = block_old earlier k.entry refl k.has in
      record {
        segments = ahead.segments;
        held = record {
          there = λ q a.
              let here = ahead.held.there q a in ⊎_elim
              (λ own. inl (sym k.same ∙ own))
              (λ other. inr (released_back q (λ x is same.
              let has = k.has in
              let one : k.entry ≡ x = cc (has, is) in other (ap entry_run one ∙ same)) here))
              (own_or_other k.entry q old here);
          back = λ q a. ahead.held.back q (⊎_elim
              (λ new. subst (λ z. In z (held b.space)) (k.same ∙ new) (own_held k.entry old))
              (λ later. (released_from q later).0)
              a);
        };
        deferred = λ r a. deferred_more earlier c.old b.space.deferred r (ahead.deferred r a);
      }

  -- ---- a new place

  placed_ahead : (p : Packed) (at : Placed)
      → place_growing segment_units (held b.space) p.exp b.space.segments (b.place.head.max_segments - b.space.segments) ≡ Some at
      → IsAhead (moved b c p at.segments at.unit) (giving_up (block_of earlier) (placed_run s p.exp at))
  placed_ahead p at found =
      let first = laws.first segment_units (held b.space) p.exp b.space.segments (b.place.head.max_segments - b.space.segments) at found in
      let r : Run = run at.unit p.exp in
      let t : SpaceState = in_segments at.segments s in
      record {
        segments = giving_segments (block_of earlier) (taking t r);
        held = record {
          there = λ q a.
              let f = giving_from (block_of earlier) (taking t r) q not_later a in ⊎_elim
              (λ new. inl new)
              (λ old. inr (released_back q f.1 (ahead.held.there q old)))
              (taken_from t r q f.0);
          back = λ q a. ⊎_elim
              (λ new. giving_back (block_of earlier) (taking t r) q (λ e is same.
              let own = own_held e (block_old earlier e refl is) in
              not_apart r (entry_run e) (ap (λ (x : Run). x.unit) (new ∙ sym same))
              (laws.apart (log2 segment_units) (segment_units * at.segments) (held b.space) p.exp at.unit (entry_run e) first.is_place own))
              (taken_back t r q (inl new)))
              (λ later. let f = released_from q later in
              giving_back (block_of earlier) (taking t r) q f.1 (taken_back t r q (inr (ahead.held.back q f.0))))
              a;
        };
        deferred = later_deferred (taking t r) refl;
      }

  same_growing : (exp : ℕ) → place_in b.place.head.max_segments s exp
      ≡ place_growing segment_units (held b.space) exp b.space.segments (b.place.head.max_segments - b.space.segments)
  same_growing exp =
      growing_same known segment_units (space_held s) (held b.space) ahead.held exp s.segments (b.place.head.max_segments - s.segments)
      ∙ ap (λ (n : ℕ). place_growing segment_units (held b.space) exp n (b.place.head.max_segments - n)) ahead.segments

  -- ---- the unit

  released_unit : c.next ≡ None → HasUnit w (released b c).cache c 0
  released_unit next =
      let back = sym next in
      let was = sym waits in
      record {
        state = last_state b.cache c.key (emptied c earlier) ∙ (λ i. Some (record { block = back i; unit = 0; hash = c.hash; old = stands_for (was i) c.old }));
        none = λ is. refl;
      }

  moved_unit : (p : Packed) (segments unit : ℕ) → c.next ≡ Some p → HasUnit w (moved b c p segments unit).cache c unit
  moved_unit p segments unit next =
      let back = sym next in
      let was = sym waits in
      record {
        state = last_state (with_state b.cache c.key (emptied c earlier)) c.key (record (emptied c earlier) { block = Some p; unit = unit })
            ∙ (λ i. Some (record { block = back i; unit = unit; hash = c.hash; old = stands_for (was i) c.old }));
        none = λ is. absurd (cc (next, is));
      }

  -- ---- both

  step_at : (p : Packed) (o : Option Placed) → c.next ≡ Some p
      → place_growing segment_units (held b.space) p.exp b.space.segments (b.place.head.max_segments - b.space.segments) ≡ o
      → Steps c w (placed_at (block_of earlier) s p.exp o) (served_at b c p o)
  step_at p None next found = refl
  step_at p (Some at) next found = (placed_ahead p at found, moved_unit p at.segments at.unit next)

  step_with : (p : Packed) (o : Option ℕ) → c.next ≡ Some p → kept_unit earlier p.exp ≡ o
      → Steps c w (placed_with b.place.head.max_segments (block_of earlier) s p.exp o) (served_with segment_units b c p o)
  step_with p (Some unit) next kept = (kept_ahead p unit kept, moved_unit p b.space.segments unit next)
  step_with p None next kept = subst (λ o. Steps c w (placed_at (block_of earlier) s p.exp o) (served_with segment_units b c p None)) (sym (same_growing p.exp))
      (step_at p _ next refl)

  step_next : (o : Option Packed) → c.next ≡ o → Steps c w (placed b.place.head.max_segments earlier s o) (served segment_units b c o)
  step_next None next = (released_ahead, released_unit next)
  step_next (Some p) next = step_with p (kept_unit earlier p.exp) next refl

  pub step : Steps c w (placed b.place.head.max_segments (state_of w c.key) s c.next) (serve segment_units b c)
  step = subst (λ e. Steps c w (placed b.place.head.max_segments e s c.next) (serve segment_units b c)) (sym waits) (step_next c.next refl)

-- ---- a command

-- the changes of other keys leave the state of a key
pub others_kept : (laws : PlaceLaws) (cs : List Change) (b new : Book) (key : List ℕ) → IsWellFormed segment_units b → ((d : Change) → In d cs → IsChange b d)
    → Pairs OtherKey cs → Pairs OtherEntry cs → ((d : Change) → In d cs → bytes_eq d.key key ≡ false) → serve_all segment_units b cs ≡ Ok new
    → state_of new.cache key ≡ state_of b.cache key
others_kept laws cs b new key formed can keys olds other is = (all_kept segment_units
    (λ x. IsWellFormed segment_units x × (state_of x.cache key ≡ state_of b.cache key))
    (λ x d. IsChange x d × (bytes_eq d.key key ≡ false))
    (λ x y d kept may e. (
      serve_formed laws segment_units x d kept.0 may.0 y e,
      other_state laws segment_units x d kept.0 may.0 key y may.1 e ∙ kept.1,
    ))
    (λ x y d f kept may more other_keys other_olds e. (carries laws segment_units x d kept.0 may.0 y f more.0 other_keys other_olds e, more.1))
    cs b new (formed, refl) (λ d a. (can d a, other d a)) keys olds is).1

with_first : (c : Change) (cs : List Change) (w : Waiting) (unit : ℕ) (r : Result Places ℕ) (o : Result Book ℕ) → Matches cs w r o
    → ((new : Book) → o ≡ Ok new → HasUnit w new.cache c unit) → Matches (c ∷ cs) w (with_unit unit r) o
with_first c cs w unit (Ok p) (Ok new) m first = (m.0, (first new refl, m.1))
with_first c cs w unit (Ok p) (Err y) m first = absurd m
with_first c cs w unit (Err x) (Ok new) m first = absurd m
with_first c cs w unit (Err x) (Err y) m first = m

all_by : (c : Change) (cs : List Change) (most : ℕ) (w : Waiting) (b : Book) (r : Result Placing ℕ) (o : Result Book ℕ) → Steps c w r o
    → serve segment_units b c ≡ o
    → ((mid : Book) (s : SpaceState) → serve segment_units b c ≡ Ok mid → IsAhead mid s → Matches cs w (all_placed most w s cs) (serve_all segment_units mid cs))
    → ((mid new : Book) → serve segment_units b c ≡ Ok mid → serve_all segment_units mid cs ≡ Ok new → state_of new.cache c.key ≡ state_of mid.cache c.key)
    → Matches (c ∷ cs) w (then_placed r (λ next. all_placed most w next cs)) (after_served o (λ next. serve_all segment_units next cs))
all_by c cs most w b (Ok at) (Ok mid) steps is go stays =
    with_first c cs w at.unit (all_placed most w at.space cs) (serve_all segment_units mid cs) (go mid at.space is steps.0)
    (λ new e. record { state = stays mid new is e ∙ steps.1.state; none = steps.1.none })
all_by c cs most w b (Ok at) (Err y) steps is go stays = absurd steps
all_by c cs most w b (Err x) (Ok mid) steps is go stays = absurd steps
all_by c cs most w b (Err x) (Err y) steps is go stays = steps

module _ (laws : PlaceLaws) (known : LedgerLaws) (most : ℕ) (w : Waiting) where
  all_matched : (cs : List Change) (b : Book) (s : SpaceState) → b.place.head.max_segments ≡ most → IsWellFormed segment_units b
      → ((c : Change) → In c cs → IsChange b c) → Pairs OtherKey cs → Pairs OtherEntry cs
      → ((c : Change) → In c cs → state_of w c.key ≡ state_of b.cache c.key) → IsAhead b s
      → Matches cs w (all_placed most w s cs) (serve_all segment_units b cs)
  all_matched [] b s max formed can keys olds waits ahead = (ahead, tt)
  all_matched (c ∷ cs) b s max formed can keys olds waits ahead =
      let own = can c (inl refl) in
      all_by c cs most w b (placed most (state_of w c.key) s c.next) (serve segment_units b c)
      (subst (λ n. Steps c w (placed n (state_of w c.key) s c.next) (serve segment_units b c)) max
      (step laws known b s w c formed own (waits c (inl refl)) ahead))
      refl
      (λ mid t is here. all_matched cs mid t (ap (λ (x : Located). x.head.max_segments) (same_place laws segment_units b c formed own mid is) ∙ max)
      (serve_formed laws segment_units b c formed own mid is)
      (λ d a. carries laws segment_units b c formed own mid d (can d (inr a)) (keys.0 d a) (olds.0 d a) is) keys.1 olds.1
      (λ d a. waits d (inr a) ∙ sym (other_state laws segment_units b c formed own d.key mid (keys.0 d a) is)) here)
      (λ mid new is e. others_kept laws cs mid new c.key (serve_formed laws segment_units b c formed own mid is)
      (λ d a. carries laws segment_units b c formed own mid d (can d (inr a)) (keys.0 d a) (olds.0 d a) is) keys.1 olds.1
      (λ d a. flips d.key c.key ∙ keys.0 d a) e)

  pub bridge_from : (b : Book) (s : SpaceState) (changes : List Change) → b.place.head.max_segments ≡ most → IsWellFormed segment_units b
      → AreChanges b changes → ((c : Change) → In c changes → state_of w c.key ≡ state_of b.cache c.key) → IsAhead b s
      → Matches changes w (all_placed most w s changes) (serve_all segment_units b changes)
  bridge_from b s changes max formed are waits ahead = all_matched changes b s max formed are.each are.keys are.entries waits ahead

-- what the crates below prove of places and states
pub place_laws : PlaceLaws
place_laws = record {
  is_run = place_is_run;
  apart = place_is_apart;
  first = grows;
  none = full_at_last;
  distinct = distinct_kept;
  others = other_states;
}

pub ledger_laws : LedgerLaws
ledger_laws = record { same_place = place_same; put = ledger_of-with_state; block = packed_of-ledger_of }

pub bridge : (b : Book) (s : SpaceState) (w : Waiting) (changes : List Change) → IsWellFormed segment_units b → AreChanges b changes
    → ((c : Change) → In c changes → state_of w c.key ≡ state_of b.cache c.key) → IsAhead b s
    → Matches changes w (all_placed b.place.head.max_segments w s changes) (serve_all segment_units b changes)
bridge b s w changes formed are waits ahead =
    bridge_from place_laws ledger_laws b.place.head.max_segments w b s changes refl formed are waits ahead
