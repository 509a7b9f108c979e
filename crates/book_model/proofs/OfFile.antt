-- A book that is that of a file: what follows, and how it stays one.
use Rattle.std.proofs.Common.{Option, ◌≡◌, ◌≤◌, ◌<◌, ◌⊎◌, inl, inr, ⊎_elim, ℕ, ◌+◌, ◌*◌, ◌^◌, true, false, nat_le, nat_lt, List, [], ◌∷◌, map, Some, Ok, refl, sym, ap, ◌∙◌, subst, arith}
use Rattle.std.specs.Prelude.{not}
use Rattle.std.specs.List.{list_any}
use Rattle.std.proofs.lemmas.Nat.{pow_pos}
use Rattle.std.proofs.lemmas.Bool.{and_parts, or_parts, not-true, and_cases, ltb-false}
use Rattle.space_model.specs.Runs.{Run, end_of, meets, is_free}
use Rattle.space_model.specs.Apart.{In, Pairs, SameMembers, Apart}
use Rattle.space_model.specs.Ledger.{Standing}
use Rattle.file_model.specs.declared.block.Packed.{Packed}
use Rattle.file_model.specs.declared.entry.Entry.{Entry}
use Rattle.file_model.specs.declared.head.Head.{Head}
use Rattle.file_model.specs.declared.head.Located.{Located}
use Rattle.file_model.specs.Header.{units_per_segment}
use Rattle.file_model.specs.Block.{Block, one_key}
use Rattle.file_model.specs.View.{View, view_of, units_of}
use Rattle.file_model.specs.Taken.{taken, rejects_above, taken_above, entry_of, entries}
use Rattle.file_model.specs.Fit.{has_segments, has_no_rejects, are_none}
use Rattle.file_model.specs.Free.{IsFreeIn}
use Rattle.write_cache.specs.declared.pending.Pending.{Pending}
use Rattle.write_cache.specs.Waiting.{Waiting}
use Rattle.book_model.specs.declared.change.Change.{Change}
use Rattle.book_model.specs.Book.{held, IsParted, Book, entry_run, entry_runs, pending_entries, olds_of, OtherUnit, MeetsNot, IsInOrder, IsWellFormed, IsAlike}
use Rattle.book_model.specs.Planning.{IsBlockFor, planned}
use Rattle.book_model.specs.LedgerOf.{filed_entries, AreStanding}
use Rattle.book_model.specs.OfFile.{IsOld, Knows, IsOf, Follows, AreChangesOf, ShowsSame, MayBeOf, placed_at, standing_block, standing_of}
use Rattle.book_model.specs.Below.{PlaceLaws, BlockLaws}
use Rattle.book_model.proofs.Members.{append_in, map_in, pairs_also, same_back, same_through, same_map}
use Rattle.book_model.proofs.Runs.{swapped, not_apart, entries_pair}
use Rattle.book_model.proofs.Released.{entry_taken}
use Rattle.book_model.proofs.Filed.{filed_from}
use Rattle.book_model.proofs.Knowing.{planned_both}
use Rattle.book_model.proofs.Commands.{planned_place}
use Rattle.book_model.proofs.Alike.{alike_filed, alike_formed}
use Rattle.book_model.proofs.Blocks.{all_of, unit_taken}

-- ---- what follows

old_deferred : (b : Book) → IsInOrder b → (e : Entry) → In e (olds_of b.cache) → In (entry_run e) b.space.deferred
old_deferred b order e a = order.deferred.back (entry_run e) (map_in entry_run (olds_of b.cache) e a)

-- a run that meets no entry that is filed is free in the file
free_by : (laws : BlockLaws) (file : List ℕ) (b : Book) (r : Run) → Knows (view_of b.place.head file) b
    → ((e : Entry) → In e (filed_entries b) → Apart r (entry_run e)) → IsFreeIn (view_of b.place.head file) r.unit r.exp
free_by laws file b r knows apart =
    let v : View = view_of b.place.head file in
    let of_block : (t : Block) → In t (taken v) → (t.unit + 2 ^ t.exp ≤ r.unit) ⊎ (r.unit + 2 ^ r.exp ≤ t.unit) = λ t a.
    swapped r (entry_run (entry_of t)) (apart (entry_of t) (knows.lists.back (entry_of t) (map_in entry_of (taken v) t a))) in
    record {
      apart = all_of (λ t. (t.unit + 2 ^ t.exp ≤ r.unit) ⊎ (r.unit + 2 ^ r.exp ≤ t.unit)) (taken v) of_block;
      shut = all_of (λ o. (o.unit < r.unit) ⊎ (r.unit + 2 ^ r.exp ≤ o.unit)) v.open_units (λ o a.
          let t = unit_taken b.place.head (units_of b.place.head file) (laws.read (units_per_segment b.place.head) b.place.head file) o knows.gates a in
          let at = t.2 in
          let some = pow_pos t.0.exp in
          ⊎_elim (λ l. inl (omega arith)) (λ l. inr (omega arith)) (of_block t.0 t.1));
    }

-- the run of an entry that is filed is held
filed_held : (b : Book) → IsInOrder b → (e : Entry) → In e (filed_entries b) → In (entry_run e) (held b.space)
filed_held b order e a = append_in b.space.taken b.space.deferred (entry_run e) (⊎_elim
    (λ stays. inl (entry_taken b order e stays.there)) (λ old. inr (old_deferred b order e old)) (filed_from b e a))

pending_apart : (n : ℕ) (b : Book) → IsWellFormed n b → (f e : Entry) → In f (pending_entries b.cache) → In e (filed_entries b) → MeetsNot f e
pending_apart n b formed f e waits filed =
    let there = formed.order.listed f waits in
    ⊎_elim
    (λ stays. ⊎_elim
    (λ one. absurd (stays.not_pending f waits (ap (λ (x : Entry). x.unit) one)))
    (λ apart. apart)
    (entries_pair b.directory f e formed.order.entries there stays.there))
    (λ old. formed.parted.beside (entry_run f) (entry_run e) (entry_taken b formed.order f there) (old_deferred b formed.order e old))
    (filed_from b e filed)

none_meets : (r : Run) (runs : List Run) (q : Run) → list_any (meets r) runs ≡ false → In q runs → meets r q ≡ false
none_meets r [] q e a = absurd a
none_meets r (x ∷ xs) q e a =
    let p = or_parts (meets r x) (list_any (meets r) xs) e in
    ⊎_elim (λ here. subst (λ z. meets r z ≡ false) here p.0) (λ later. none_meets r xs q p.1 later) a

apart_from_test : (r q : Run) → meets r q ≡ false → Apart r q
apart_from_test r q e = ⊎_elim
    (λ x. inr (ltb-false r.unit (end_of q) x)) (λ x. inl (ltb-false q.unit (end_of r) x)) (and_cases (nat_lt r.unit (end_of q)) (nat_lt q.unit (end_of r)) e)

free_apart : (units : ℕ) (runs : List Run) (r : Run) → is_free units runs r ≡ true → (q : Run) → In q runs → Apart r q
free_apart units runs r free q a =
    let p = and_parts (nat_le (end_of r) units) (not (list_any (meets r) runs)) free in
    apart_from_test r q (none_meets r runs q (not-true (list_any (meets r) runs) p.1) a)

pub follows : (laws : BlockLaws) (file : List ℕ) (b : Book) → IsOf file b → Follows file b
follows laws file b of =
    let formed = of.order in
    let order = formed.order in
    let least = order.at_least in
    record {
      runs = λ f waits. record {
        taken = entry_taken b order f (order.listed f waits);
        free = free_by laws file b (entry_run f) of.knows (λ e filed. pending_apart (units_per_segment b.place.head) b formed f e waits filed);
      };
      apart = pairs_also OtherUnit MeetsNot (pending_entries b.cache) (λ e f x y other. ⊎_elim
          (λ one. absurd (other (ap (λ (z : Entry). z.unit) one)))
          (λ apart. apart)
          (entries_pair b.directory e f order.entries (order.listed e x) (order.listed f y))) order.units;
      gone = λ e old there.
          not_apart (entry_run e) (entry_run e) refl (formed.parted.beside (entry_run e) (entry_run e) (entry_taken b order e there) (old_deferred b order e old));
      segments = omega arith;
      free = λ r free. free_by laws file b r of.knows (λ e filed.
          free_apart (units_per_segment b.place.head * b.space.segments) (held b.space) r free (entry_run e) (filed_held b order e filed));
    }

-- ---- under a command

pub planned_of : (laws : PlaceLaws) (file : List ℕ) (cs : List Change) (b : Book) → IsOf file b → AreChangesOf (view_of b.place.head file) b cs
    → IsOf file (planned (units_per_segment b.place.head) b cs)
planned_of laws file cs b of are =
    let n : ℕ = units_per_segment b.place.head in
    let v : View = view_of b.place.head file in
    let both = planned_both laws v n cs b (record { formed = of.order; knows = of.knows }) are in
    let same = planned_place laws n cs b of.order are.are in
    record {
      place = of.place ∙ ap (λ (l : Located). Ok l) (sym same);
      whole = ap (λ (l : Located). has_segments l.head file) same ∙ of.whole;
      knows = subst (λ (l : Located). Knows (view_of l.head file) (planned n b cs)) (sym same) both.knows;
      order = subst (λ (l : Located). IsWellFormed (units_per_segment l.head) (planned n b cs)) (sym same) both.formed;
    }

-- ---- of another file that shows the same

pub same_taken : (v w : View) → ShowsSame v w → taken w ≡ taken v
same_taken v w same = ap (λ os. taken_above os []) same.open_units

old_of : (v w : View) (key : List ℕ) (o : Option Entry) → taken w ≡ taken v → IsOld v key o → IsOld w key o
old_of v w key o same old = record {
  some = λ e is. let h = old.some e is in
      record { block = h.block; taken = subst (λ ts. In h.block ts) (sym same) h.taken; entry = h.entry; spelled_is = h.spelled_is };
  every = λ t a key. old.every t (subst (λ ts. In t ts) same a) key;
}

-- a block for a key is one with each header of the same kind and key position
abbrev pub block_of : (h g : Head) (key : List ℕ) (p : Packed) → g.kind ≡ h.kind → g.keypos ≡ h.keypos → IsBlockFor h key p → IsBlockFor g key p
block_of h g key p kind keypos f = record {
  objects = f.objects;
  term = f.term;
  may_pack = f.may_pack;
  made = f.made;
  of_key = (λ i. one_key (kind i) (keypos i) f.objects) ∙ f.of_key;
  spelled_is = f.spelled_is;
  fits = f.fits;
}

pub same_of : (old new : List ℕ) (b : Book) (place : Located) → IsOf old b → MayBeOf old new b place → IsOf new (placed_at b place)
same_of old new b place of may =
    let v : View = view_of b.place.head old in
    let w : View = view_of place.head new in
    let same = same_taken v w may.same in
    let order = of.order.order in
    record {
      place = may.place_is;
      whole = may.whole;
      knows = record {
        gates = ap (λ os. are_none (rejects_above os [])) may.same.open_units ∙ of.knows.gates;
        lists = subst (λ ts. SameMembers (filed_entries b) (map entry_of ts)) (sym same) of.knows.lists;
        olds = λ e a. old_of v w e.0 e.1.old same (of.knows.olds e a);
        packed = λ e p a is. block_of b.place.head place.head e.0 p may.same.kind may.same.keypos (of.knows.packed e p a is);
      };
      order = record {
        order = record {
          header = may.allowed;
          at_least = may.at_least;
          at_most = may.at_most;
          entries = order.entries;
          taken = order.taken;
          units = order.units;
          listed = order.listed;
          deferred = order.deferred;
          hashed = order.hashed;
        };
        parted = of.order.parted;
        distinct = of.order.distinct;
      };
    }

-- ---- an alike book

pub alike_of : (file : List ℕ) (a b : Book) → IsAlike a b → IsOf file a → IsParted (units_per_segment b.place.head) b.space → Pairs OtherUnit b.directory
    → IsOf file b
alike_of file a b alike of parted units = record {
  place = of.place ∙ ap (λ (l : Located). Ok l) (sym alike.place);
  whole = ap (λ (l : Located). has_segments l.head file) alike.place ∙ of.whole;
  knows = record {
    gates = subst (λ (l : Located). has_no_rejects (view_of l.head file) ≡ true) (sym alike.place) of.knows.gates;
    lists = subst (λ (l : Located). SameMembers (filed_entries b) (entries (view_of l.head file))) (sym alike.place)
        (same_through (filed_entries b) (filed_entries a) (entries (view_of a.place.head file))
        (same_back (filed_entries a) (filed_entries b) (alike_filed a b alike)) of.knows.lists);
    olds = subst (λ (l : Located). (e : List ℕ × Pending) → In e b.cache → IsOld (view_of l.head file) e.0 e.1.old) (sym alike.place)
        (subst (λ (w : Waiting). (e : List ℕ × Pending) → In e w → IsOld (view_of a.place.head file) e.0 e.1.old) (sym alike.cache) of.knows.olds);
    packed = subst (λ (l : Located). (e : List ℕ × Pending) (p : Packed) → In e b.cache → e.1.block ≡ Some p → IsBlockFor l.head e.0 p) (sym alike.place)
        (subst (λ (w : Waiting). (e : List ℕ × Pending) (p : Packed) → In e w → e.1.block ≡ Some p → IsBlockFor a.place.head e.0 p) (sym alike.cache)
        of.knows.packed);
  };
  order = alike_formed a b alike (units_per_segment b.place.head)
      (subst (λ (l : Located). IsWellFormed (units_per_segment l.head) a) (sym alike.place) of.order) parted units;
}

-- ---- the blocks that stand

standing_runs : (ts : List Block) → map (λ (s : Standing). s.run) (map standing_block ts) ≡ entry_runs (map entry_of ts)
standing_runs [] = refl
standing_runs (t ∷ ts) = ap (λ rs. entry_run (entry_of t) ∷ rs) (standing_runs ts)

pub stands_of : (file : List ℕ) (b : Book) → IsOf file b → AreStanding (standing_of (view_of b.place.head file)) b
stands_of file b of =
    let v : View = view_of b.place.head file in
    subst (λ rs. SameMembers rs (entry_runs (filed_entries b))) (sym (standing_runs (taken v)))
    (same_map entry_run (entries v) (filed_entries b) (same_back (filed_entries b) (entries v) of.knows.lists))

-- ---- a book that was just opened
