-- The blocks of a file come into a book, and the book is that of the file then.
use Rattle.std.proofs.Common.{◌≡◌, ◌≤◌, ◌<◌, ◌-◌, inl, inr, ⊎_elim, ℕ, ◌+◌, ◌*◌, ◌^◌, ◌%◌, ◌/◌, ◌==◌, Bool, true, false, cond, List, [], ◌∷◌, ◌++◌, length, Ok, refl, sym, ap, ◌∙◌, subst, arith}
use Rattle.std.specs.Prelude.{◌&&◌, nat_le}
use Rattle.std.proofs.lemmas.Bool.{and_parts, and_from, le-leb, leb-true, both_ways, cases_lt}
use Rattle.std.proofs.Math.Pow.{pow_mono}
use Rattle.std.proofs.lemmas.Nat.{pow_pos}
use Rattle.space_model.specs.Sizes.{segment_units}
use Rattle.space_model.specs.Runs.{Run}
use Rattle.space_model.specs.Apart.{In, Pairs, SameMembers, Apart, IsRun}
use Rattle.space_model.proofs.Members.{in_front, pairs_front, pairs_cross}
use Rattle.file_model.specs.declared.entry.Entry.{Entry}
use Rattle.file_model.specs.declared.head.Head.{Head}
use Rattle.file_model.specs.Header.{the_version, most_segments, units_per_segment, may_name, is_allowed, located}
use Rattle.file_model.specs.Block.{Block, standing}
use Rattle.file_model.specs.LayoutLaws.{EndsInSegment}
use Rattle.file_model.specs.Stands.{StandsAligned}
use Rattle.file_model.specs.View.{view_of, units_of}
use Rattle.file_model.specs.Taken.{taken, entry_of, entries}
use Rattle.file_model.specs.Fit.{has_no_rejects}
use Rattle.write_cache.specs.Waiting.{Waiting}
use Rattle.buddy_space.specs.SpaceState.{SpaceState, units, held, largest_exp, IsParted, is_free_run, taking}
use Rattle.buddy_space.proofs.States.{run_is_free, free_is_apart, in_taking, taking_in}
use Rattle.slot_table.specs.BySlot.{Slot, BySlot, by_slot, entries_in, with_entry, LacksUnit, IsDirectory}
use Rattle.slot_table.proofs.Entering.{in_added, added_old, added_new}
use Rattle.book_model.specs.Book.{entry_run, entry_runs, pending_entries, olds_of, OtherUnit, MeetsNot, IsInOrder}
use Rattle.book_model.specs.OfFile.{IsOpened}
use Rattle.book_model.specs.Below.{BlockLaws}
use Rattle.book_model.proofs.Members.{append_in, in_append, map_in, in_map, pairs_also}
use Rattle.book_model.proofs.Blocks.{taken_stands}
use Rattle.book_model.proofs.Opened.{taken_apart}
use Rattle.book_model.proofs.Runs.{swapped, not_apart, runs_pair}
use Rattle.flush_engine.specs.declared.book.Book.{Book as KeptBook}
use Rattle.flush_engine.specs.Meaning.{book_of}
use Rattle.flush_engine.proofs.Few.{few_units}
use Rattle.flush_engine.proofs.Parts.{parted_runs, other_units}
use Rattle.table_core.specs.Opening.{AreBlocks, can_enter, entered_runs, entered_entries, HasEntered}

-- ---- one block

-- no entry has the unit of a run that is free
pub lacks_unit : (s : SpaceState) (e : Entry) (b : BySlot) → ((x : Entry) → In x (entries_in b) → In (entry_run x) s.taken)
    → is_free_run s (entry_run e) ≡ true → LacksUnit b e.unit
lacks_unit s e b taken free x a same =
    not_apart (entry_run e) (entry_run x) (sym same)
    (free_is_apart s (entry_run e) (entry_run x) free (in_front s.taken s.deferred (entry_run x) (taken x a)))

module _ (segments : ℕ) (done : List Entry) (e : Entry) (s : SpaceState) (slots : List Slot) (so : HasEntered segments done s slots) where
  front : AreBlocks segments (done ++ e ∷ []) → AreBlocks segments done
  front blocks = record {
    runs = λ x a. blocks.runs x (append_in done (e ∷ []) x (inl a));
    apart = pairs_front MeetsNot done (e ∷ []) blocks.apart;
  }

  own : AreBlocks segments (done ++ e ∷ []) → IsRun largest_exp (units s) (entry_run e)
  own blocks = subst (λ n. IsRun largest_exp (segment_units * n) (entry_run e)) (sym so.segments_are)
      (blocks.runs e (append_in done (e ∷ []) e (inr (inl refl))))

  -- it does not meet what was taken before
  apart_from : AreBlocks segments (done ++ e ∷ []) → (q : Run) → In q (held s) → Apart (entry_run e) q
  apart_from blocks q a = ⊎_elim
      (λ t.
      let f = in_map entry_run (entries_in (by_slot slots)) q (so.taken.there q t) in
      subst (λ r. Apart (entry_run e) r) f.2 (swapped (entry_run f.0) (entry_run e)
      (pairs_cross MeetsNot done (e ∷ []) blocks.apart f.0 e ((so.all (front blocks)).there f.0 f.1) (inl refl))))
      (λ d. absurd (subst (λ rs. In q rs) so.deferred d))
      (in_append s.taken s.deferred q a)

  can : AreBlocks segments (done ++ e ∷ []) → can_enter s e ≡ true
  can blocks =
      let run = own blocks in
      and_from (nat_le e.exp largest_exp) (is_free_run s (entry_run e)) (le-leb e.exp largest_exp run.exp)
      (run_is_free s (entry_run e) run (apart_from blocks))

  abbrev old : List Entry
  old = entries_in (by_slot slots)

  abbrev added : List Entry
  added = entries_in (with_entry (by_slot slots) e)

  module _ (dir : IsDirectory (by_slot slots)) (new : SpaceState) (then : List Slot) where
    comes : new ≡ taking s (entry_run e) → by_slot then ≡ with_entry (by_slot slots) e → HasEntered segments (done ++ e ∷ []) new then
    comes runs is = record {
      taken = subst (λ (t : SpaceState). SameMembers t.taken (entry_runs (entries_in (by_slot then)))) (sym runs)
          (subst (λ b. SameMembers (taking s (entry_run e)).taken (entry_runs (entries_in b))) (sym is) (record {
            there = λ r a. ⊎_elim
                (λ same. subst (λ q. In q (entry_runs added)) same (map_in entry_run added e (added_new (by_slot slots) e (omega (arith, dir.many)))))
                (λ was.
                let f = in_map entry_run old r (so.taken.there r was) in
                subst (λ q. In q (entry_runs added)) f.2 (map_in entry_run added f.0 (added_old (by_slot slots) e f.0 f.1)))
                (in_taking s (entry_run e) r a);
            back = λ r a.
                let f = in_map entry_run added r a in
                taking_in s (entry_run e) r (⊎_elim
                (λ same. inl (ap entry_run same ∙ f.2))
                (λ was. inr (subst (λ q. In q s.taken) f.2 (so.taken.back (entry_run f.0) (map_in entry_run old f.0 was))))
                (in_added (by_slot slots) e f.0 f.1));
          }));
      deferred = ap (λ (t : SpaceState). t.deferred) runs ∙ so.deferred;
      segments_are = ap (λ (t : SpaceState). t.segments) runs ∙ so.segments_are;
      all = λ blocks.
          let before = so.all (front blocks) in
          subst (λ b. SameMembers (entries_in b) (done ++ e ∷ [])) (sym is) (record {
            there = λ x a. append_in done (e ∷ []) x (⊎_elim (λ same. inr (inl same)) (λ was. inl (before.there x was)) (in_added (by_slot slots) e x a));
            back = λ x a. ⊎_elim
                (λ was. added_old (by_slot slots) e x (before.back x was))
                (λ last. ⊎_elim
                (λ same. subst (λ y. In y added) same (added_new (by_slot slots) e (omega (arith, dir.many))))
                (λ none. absurd none)
                last)
                (in_append done (e ∷ []) x a);
          });
    }

    stays : can_enter s e ≡ false → new ≡ s → by_slot then ≡ by_slot slots → HasEntered segments (done ++ e ∷ []) new then
    stays not runs is = record {
      taken = subst (λ (t : SpaceState). SameMembers t.taken (entry_runs (entries_in (by_slot then)))) (sym runs)
          (subst (λ b. SameMembers s.taken (entry_runs (entries_in b))) (sym is) so.taken);
      deferred = ap (λ (t : SpaceState). t.deferred) runs ∙ so.deferred;
      segments_are = ap (λ (t : SpaceState). t.segments) runs ∙ so.segments_are;
      all = λ blocks. absurd (both_ways (can_enter s e) not (can blocks));
    }

    by_test : (t : Bool) → can_enter s e ≡ t → new ≡ cond t (taking s (entry_run e)) s → by_slot then ≡ cond t (with_entry (by_slot slots) e) (by_slot slots)
        → HasEntered segments (done ++ e ∷ []) new then
    by_test true is runs entries = comes runs entries
    by_test false is runs entries = stays is runs entries

    pub entered_more : new ≡ entered_runs s e → by_slot then ≡ entered_entries s e (by_slot slots) → HasEntered segments (done ++ e ∷ []) new then
    entered_more runs entries = by_test (can_enter s e) refl runs entries

-- ---- the entries of a file

-- a block in a unit of the segments that count ends in them
ends_within : (u exp segments : ℕ) → EndsInSegment segment_units u (2 ^ exp) → u < segment_units * segments → u + 2 ^ exp ≤ segment_units * segments
ends_within u exp segments ends below =
    let quotient : u / segment_units < segments = omega (arith, below) in
    omega (arith, ends, below, quotient)

module _ (laws : BlockLaws) (aligned : (h : Head) (unit : ℕ) (bytes : List ℕ) (b : Block) → standing segment_units h.kind h.keypos unit bytes ≡ Ok b
    → StandsAligned segment_units h.kind h.keypos unit b)
    (in_segment : (u exp : ℕ) → 2 ^ exp ≤ segment_units → u % 2 ^ exp ≡ 0 → EndsInSegment segment_units u (2 ^ exp))
    (f : List ℕ) (h : Head) (none : has_no_rejects (view_of h f) ≡ true) where
  block_run : (t : Block) → In t (taken (view_of h f)) → IsRun largest_exp (segment_units * h.segments) (entry_run (entry_of t))
  block_run t a =
      let stands = taken_stands h (units_of h f) (laws.read segment_units h f) t a in
      let is = aligned h t.unit _ t stands.stands in
      record {
        exp = small t.exp is.fits;
        aligned = is.aligned;
        ends = ends_within t.unit t.exp h.segments (in_segment t.unit t.exp is.fits is.aligned) (omega (arith, stands.inside));
      }
    where
      small : (e : ℕ) → 2 ^ e ≤ segment_units → e ≤ largest_exp
      small e fits = ⊎_elim
          (λ (less : e < 13). omega (arith, less))
          (λ (more : 13 ≤ e). let high : 2 ^ 13 ≤ 2 ^ e = pow_mono more in absurd (omega (arith, high, fits)))
          (cases_lt e 13)

  pub file_blocks : AreBlocks h.segments (entries (view_of h f))
  file_blocks = record {
    runs = λ e a.
        let t = in_map entry_of (taken (view_of h f)) e a in
        subst (λ (x : Entry). IsRun largest_exp (segment_units * h.segments) (entry_run x)) t.2 (block_run t.0 t.1);
    apart = taken_apart laws h (units_of h f) (laws.read segment_units h f) none;
  }

-- ---- all blocks

sixth : (a b c d e f g : Bool) → (a && (b && (c && (d && (e && (f && g)))))) ≡ true → f ≡ true
sixth a b c d e f g is =
    (and_parts f g (and_parts e (f && g) (and_parts d (e && (f && g)) (and_parts c (d && (e && (f && g)))
    (and_parts b (c && (d && (e && (f && g)))) (and_parts a (b && (c && (d && (e && (f && g))))) is).1).1).1).1).1).0

at_most : (h : Head) → is_allowed h ≡ true → h.segments ≤ h.max_segments
at_most h is =
    leb-true h.segments h.max_segments
    (sixth (h.version == the_version) (nat_le 1 h.keypos) (nat_le h.keypos 65535) (nat_le 1 h.max_segments) (nat_le h.max_segments most_segments)
    (nat_le h.segments h.max_segments) (may_name h.state (units_per_segment h * h.segments) h.index) is)

module _ (b : KeptBook) (es : List Entry) (so : HasEntered b.place.head.segments es b.space b.directory) (parted : IsParted b.space)
    (dir : IsDirectory (by_slot b.directory)) (nothing : b.cache ≡ []) where
  abbrev old_entries : List Entry
  old_entries = entries_in (by_slot b.directory)

  -- entries with other units have other runs, which are taken and do not meet
  meets_none : (e f : Entry) → In e old_entries → In f old_entries → OtherUnit e f → MeetsNot e f
  meets_none e f x y other = ⊎_elim
      (λ same. absurd (other (ap (λ (r : Run). r.unit) same)))
      (λ apart. apart)
      (runs_pair b.space.taken (entry_run e) (entry_run f) (parted_runs b.space parted).taken_apart
      (so.taken.back (entry_run e) (map_in entry_run old_entries e x)) (so.taken.back (entry_run f) (map_in entry_run old_entries f y)))

  pub opened_order : is_allowed b.place.head ≡ true → IsInOrder (book_of b)
  opened_order allowed =
      let most = at_most b.place.head allowed in
      record {
        header = allowed;
        at_least = omega (arith, so.segments_are);
        at_most = omega (arith, so.segments_are, most);
        entries = pairs_also OtherUnit MeetsNot old_entries meets_none (other_units b dir);
        taken = so.taken;
        units = subst (λ (w : Waiting). Pairs OtherUnit (pending_entries w)) (sym nothing) tt;
        listed = λ e a. absurd (subst (λ (w : Waiting). In e (pending_entries w)) nothing a);
        deferred = record {
          there = λ r a. absurd (subst (λ rs. In r rs) so.deferred a);
          back = λ r a. absurd (subst (λ (w : Waiting). In r (entry_runs (olds_of w))) nothing a);
        };
        hashed = λ e a. absurd (subst (λ (w : Waiting). In e w) nothing a);
      }

  pub is_opened : (f : List ℕ) → located f ≡ Ok b.place → es ≡ entries (view_of b.place.head f) → AreBlocks b.place.head.segments (entries (view_of b.place.head f))
      → IsOpened f (book_of b)
  is_opened f found are blocks = record {
    place = found;
    segments = so.segments_are;
    taken = so.taken;
    deferred = so.deferred;
    directory = subst (λ l. SameMembers old_entries l) are (so.all (subst (λ l. AreBlocks b.place.head.segments l) (sym are) blocks));
    units = other_units b dir;
    cache = nothing;
  }

-- ---- few entries

-- the units of entries whose runs are taken are those of the segments
pub few_entries : (segments : ℕ) (done : List Entry) (s : SpaceState) (slots : List Slot) → HasEntered segments done s slots → IsParted s
    → IsDirectory (by_slot slots) → length (entries_in (by_slot slots)) < 2 ^ 32 - 1
few_entries segments done s slots so parted dir =
    let most = few_units (segment_units * 8000) (entries_in (by_slot slots)) dir.units (λ e a.
    let run = parted.runs (entry_run e) (in_front s.taken s.deferred (entry_run e) (so.taken.back (entry_run e) (map_in entry_run (entries_in (by_slot slots)) e a))) in
    let some = pow_pos e.exp in
    let fits = parted.most in
    let ends = run.ends in
    omega (arith, some, fits, ends)) in
    omega (arith, most)

pub runs_taken : (segments : ℕ) (done : List Entry) (s : SpaceState) (slots : List Slot) → HasEntered segments done s slots
    → (e : Entry) → In e (entries_in (by_slot slots)) → In (entry_run e) s.taken
runs_taken segments done s slots so e a = so.taken.back (entry_run e) (map_in entry_run (entries_in (by_slot slots)) e a)
