-- What a book in order says of its parts.
use Rattle.std.proofs.Common.{◌≡◌, ◌≤◌, ⊎_elim, ℕ, ◌*◌, Bool, true, false, List, Option, Some, None, refl, sym, ap, subst}
use Rattle.std.specs.Prelude.{IfSome, bytes_eq, ◌&&◌, ◌==◌, nat_le}
use Rattle.std.proofs.lemmas.Bool.{and_parts, leb-true}
use Rattle.space_model.specs.Sizes.{segment_units}
use Rattle.space_model.specs.Apart.{In, Pairs, Apart}
use Rattle.space_model.proofs.Members.{in_front, in_behind, pairs_front, pairs_behind, pairs_cross}
use Rattle.space_model.proofs.Rooms.{fits_segment}
use Rattle.file_model.specs.declared.block.Packed.{Packed}
use Rattle.file_model.specs.declared.entry.Entry.{Entry}
use Rattle.file_model.specs.declared.head.Head.{Head}
use Rattle.file_model.specs.Header.{units_per_segment, may_name, is_allowed}
use Rattle.write_cache.specs.declared.pending.Pending.{Pending}
use Rattle.write_cache.specs.Waiting.{state_of, HasDistinctKeys}
use Rattle.buddy_space.specs.SpaceState.{SpaceState, IsParted}
use Rattle.slot_table.specs.BySlot.{by_slot, entries_in, IsDirectory}
use Rattle.book_model.specs.declared.change.Change.{Change}
use Rattle.book_model.specs.Book.{Book, IsParted as IsBookParted, entry_run, pending_entry, OtherUnit, IsInOrder, IsWellFormed}
use Rattle.book_model.specs.Planning.{IsBlockFor, IsChange, OtherKey, AreChanges}
use Rattle.book_model.proofs.Members.{filter_map_in, filter_map_pairs, Through, two_of, pairs_also}
use Rattle.book_model.proofs.Waits.{Touched, found_in, other_key}
use Rattle.book_model.proofs.Released.{entry_taken}
use Rattle.flush_engine.specs.declared.book.Book.{Book as KeptBook}
use Rattle.flush_engine.specs.Meaning.{runs_of, book_of}
use Rattle.flush_engine.specs.Placing.{block_of}
use Rattle.flush_engine.specs.Steps.{MayBePlaced}

fifth : (a b c d e f : Bool) → (a && (b && (c && (d && (e && f))))) ≡ true → e ≡ true
fifth a b c d e f is =
    (and_parts e f (and_parts d (e && f) (and_parts c (d && (e && f)) (and_parts b (c && (d && (e && f)))
    (and_parts a (b && (c && (d && (e && f)))) is).1).1).1).1).0

-- no header has more segments
pub allowed_most : (h : Head) → is_allowed h ≡ true → h.max_segments ≤ 8000
allowed_most h is =
    leb-true h.max_segments 8000
    (fifth (h.version == 1) (nat_le 1 h.keypos) (nat_le h.keypos 65535) (nat_le 1 h.max_segments) (nat_le h.max_segments 8000)
    (nat_le h.segments h.max_segments && may_name h.state (units_per_segment h * h.segments) h.index) is)

pub parted_runs : (s : SpaceState) → IsParted s → IsBookParted segment_units (runs_of s)
parted_runs s parted = record {
  taken_runs = λ r a. parted.runs r (in_front s.taken s.deferred r a);
  deferred_runs = λ r a. parted.runs r (in_behind s.taken s.deferred r a);
  taken_apart = pairs_front Apart s.taken s.deferred parted.apart;
  deferred_apart = pairs_behind Apart s.taken s.deferred parted.apart;
  beside = λ r q a b. pairs_cross Apart s.taken s.deferred parted.apart r q a b;
}

pub well_formed : (b : KeptBook) → IsInOrder (book_of b) → IsParted b.space → HasDistinctKeys b.cache → IsWellFormed segment_units (book_of b)
well_formed b order parted distinct = record { order = order; parted = parted_runs b.space parted; distinct = distinct }

pub other_units : (b : KeptBook) → IsDirectory (by_slot b.directory) → Pairs OtherUnit (entries_in (by_slot b.directory))
other_units b d = d.units

-- ---- what may be placed

block_taken : (b : Book) (key : List ℕ) (o : Option Pending) (e : Option Entry) → IsInOrder b → state_of b.cache key ≡ o → block_of o ≡ e
    → IfSome e (λ x. In (entry_run x) b.space.taken)
block_taken b key o None order has is = tt
block_taken b key None (Some e) order has is = absurd (cc is)
block_taken b key (Some s) (Some e) order has is = entry_taken b order e
    (order.listed e (filter_map_in (λ (x : Touched). pending_entry x.1) b.cache (key, s) e (found_in b.cache key s has) is))

fits : (h : Head) (key : List ℕ) (p : Packed) → IsBlockFor h key p → p.exp ≤ 12
fits h key p f = subst (λ e. e ≤ 12) (sym f.made.exp) (fits_segment 12 _ f.fits)

exp_fits : (b : Book) (c : Change) (o : Option Packed) → IsChange b c → c.next ≡ o → IfSome o (λ p. p.exp ≤ 12)
exp_fits b c None can is = tt
exp_fits b c (Some p) can is = fits b.place.head c.key p (can.next p is)

-- the pending blocks of two keys have other units
blocks_differ : (b : Book) (x y : List ℕ) (s t : Option Pending) (e f : Entry) → IsInOrder b → bytes_eq x y ≡ false → state_of b.cache x ≡ s → state_of b.cache y ≡ t
    → block_of s ≡ Some e → block_of t ≡ Some f → f.unit ≡ e.unit → ⊥
blocks_differ b x y None t e f order other has_x has_y is_x is_y same = absurd (cc is_x)
blocks_differ b x y (Some s) None e f order other has_x has_y is_x is_y same = absurd (cc is_y)
blocks_differ b x y (Some s) (Some t) e f order other has_x has_y is_x is_y same = ⊎_elim
    (λ one. absurd (other_key x y other (ap (λ (z : Touched). z.0) one)))
    (λ apart. ⊎_elim (λ r. r e f is_x is_y (sym same)) (λ r. r f e is_y is_x same) apart)
    (two_of (Through (λ (z : Touched). pending_entry z.1) OtherUnit) b.cache (x, s) (y, t)
    (filter_map_pairs (λ (z : Touched). pending_entry z.1) OtherUnit b.cache order.units)
    (found_in b.cache x s has_x) (found_in b.cache y t has_y))

pub may_be_placed : (b : KeptBook) (changes : List Change) → IsInOrder (book_of b) → AreChanges (book_of b) changes
    → MayBePlaced b.cache b.space changes
may_be_placed b changes order are = record {
  blocks = λ c a. block_taken (book_of b) c.key (state_of b.cache c.key) (block_of (state_of b.cache c.key)) order refl refl;
  exps = λ c a. exp_fits (book_of b) c c.next (are.each c a) refl;
  others = pairs_also OtherKey
      (λ (c d : Change). (e f : Entry) → block_of (state_of b.cache c.key) ≡ Some e → block_of (state_of b.cache d.key) ≡ Some f → f.unit ≡ e.unit → ⊥)
      changes
      (λ c d x y other e f is_c is_d same.
      blocks_differ (book_of b) c.key d.key (state_of b.cache c.key) (state_of b.cache d.key) e f order other refl refl is_c is_d same)
      are.keys;
}
