-- A flush does to the ledger of a book what the ledger's definition says.
use Rattle.std.proofs.Common.{◌≡◌, inl, inr, ⊎_elim, ℕ, true, false, List, [], filter, Option, Some, None, refl, sym, ap, ◌∙◌, subst}
use Rattle.std.specs.Prelude.{not, bytes_eq, filter_map, option_map}
use Rattle.std.proofs.lemmas.Bool.{both_ways, not-true, not_from_false, false_from_ne_true}
use Rattle.etf_model.specs.Canonical.{spelled}
use Rattle.space_model.specs.Runs.{run}
use Rattle.space_model.specs.Apart.{In, SameMembers}
use Rattle.space_model.specs.Ledger.{Packed as Payload, Pending as LedgerPending, Standing, is_pending, standing_of as standing_of_pending, flushed_standing, flush}
use Rattle.file_model.specs.declared.block.Packed.{Packed}
use Rattle.file_model.specs.declared.head.Head.{Head}
use Rattle.file_model.specs.Header.{units_per_segment}
use Rattle.file_model.specs.Block.{Block}
use Rattle.file_model.specs.View.{Units, view_of, units_in}
use Rattle.file_model.specs.Taken.{taken, entry_of}
use Rattle.file_model.specs.Gates.{is_among}
use Rattle.file_model.specs.Flush.{without_olds}
use Rattle.write_cache.specs.PendingState.{payload_at, in_ledger}
use Rattle.write_cache.specs.Waiting.{Waiting, ledger_of as pending_of}
use Rattle.book_model.specs.Book.{Book, olds_of}
use Rattle.book_model.specs.LedgerOf.{ledger_of}
use Rattle.book_model.specs.OfFile.{IsOf, standing_block, standing_of}
use Rattle.book_model.specs.Flushing.{bodies_of, old_units, settled}
use Rattle.book_model.specs.Below.{BlockLaws, FlushLaws, WriteLaws}
use Rattle.book_model.proofs.Members.{append_in, in_append, map_in, in_map, in_filter, filter_in, filter_map_in, in_filter_map, any_passes, passes_any}
use Rattle.book_model.proofs.Waits.{Touched, same_key, key_self}
use Rattle.book_model.proofs.Blocks.{taken_stands, stands_taken}
use Rattle.book_model.proofs.Flushable.{unit_among, for_key, read}
use Rattle.book_model.proofs.NewObjects.{goes_with}
use Rattle.book_model.proofs.Settled.{its_block, new_open, classified, none_rejected, read_now, still_open}

pending_there : (w : Waiting) (e : Touched) → In e w → is_pending (pending_of w) e.0 ≡ true
pending_there w e a = passes_any (λ (p : LedgerPending). bytes_eq p.key e.0) (pending_of w) (in_ledger e.0 e.1) (map_in (λ (x : Touched). in_ledger x.0 x.1) w e a) (key_self e.0)

pending_from : (w : Waiting) (key : List ℕ) → is_pending (pending_of w) key ≡ true → (e : Touched) × In e w × (e.0 ≡ key)
pending_from w key waits =
    let r = any_passes (λ (p : LedgerPending). bytes_eq p.key key) (pending_of w) waits in
    let e = in_map (λ (x : Touched). in_ledger x.0 x.1) w r.member r.there in
    (e.0, e.1, ap (λ (p : LedgerPending). p.key) e.2 ∙ same_key r.member.key key r.is)

-- the block that a key is to have
record Comes (e : Touched) (x : Standing) : Type 0 where
  packed : Packed
  has : e.1.block ≡ Some packed
  is : record { key = e.0; run = run e.1.unit packed.exp } ≡ x

comes_by : (e : Touched) (x : Standing) (o : Option Packed) → e.1.block ≡ o
    → option_map (λ at. record { key = e.0; run = at }) (option_map (λ (q : Payload). q.run) (option_map (payload_at e.1.unit) o)) ≡ Some x → Comes e x
comes_by e x None has is = absurd (cc is)
comes_by e x (Some p) has is = record { packed = p; has = has; is = cc is }

module _ (blocks : BlockLaws) (known : FlushLaws) (laws : WriteLaws) (file : List ℕ) (b : Book) (of : IsOf file b)
    (grown : b.place.head.segments ≡ b.space.segments) where
  abbrev h : Head
  h = b.place.head

  abbrev n : ℕ
  n = units_per_segment h

  abbrev old : Units
  old = units_in n h file

  abbrev olds : List ℕ
  olds = old_units b.cache

  abbrev done : List ℕ
  done = without_olds n (bodies_of b.cache) olds file

  abbrev now : Units
  now = units_in n h done

  abbrev before : List Standing
  before = standing_of (view_of h file)

  -- a block that goes is that of a key that waits
  goes_pending : (t : Block) → In t (taken (view_of h file)) → is_among olds t.unit ≡ true → is_pending (pending_of b.cache) (spelled t.key) ≡ true
  goes_pending t a among =
      let w = goes_with blocks known laws file b of grown t.unit t (taken_stands h old (read blocks known file b of grown) t a) among in
      subst (λ k. is_pending (pending_of b.cache) k ≡ true) (sym w.2) (pending_there b.cache w.0 w.1)

  -- and that of a key that waits goes
  pending_goes : (t : Block) → In t (taken (view_of h file)) → is_pending (pending_of b.cache) (spelled t.key) ≡ true → is_among olds t.unit ≡ true
  pending_goes t a waits =
      let e = pending_from b.cache (spelled t.key) waits in
      let old_is = (of.knows.olds e.0 e.1).every t a (sym e.2) in
      unit_among (olds_of b.cache) (entry_of t) (filter_map_in (λ (x : Touched). x.1.old) b.cache e.0 (entry_of t) e.1 old_is)

  new_is : (e : Touched) (p : Packed) (there : In e b.cache) (has : e.1.block ≡ Some p)
      → standing_block (its_block blocks known laws file b of grown e p there has) ≡ record { key = e.0; run = run e.1.unit p.exp }
  new_is e p there has = λ i. record { key = (for_key blocks known file b of grown e p there has).spelled_is i; run = run e.1.unit p.exp }

  pub stands_now : SameMembers (flushed_standing before (pending_of b.cache)) (standing_of (view_of h done))
  stands_now = record {
    there = λ x a. ⊎_elim
        (λ front.
        let f = in_filter (λ (s : Standing). not (is_pending (pending_of b.cache) s.key)) before x front in
        let t = in_map standing_block (taken (view_of h file)) x f.0 in
        let none : is_among olds t.0.unit ≡ false = false_from_ne_true (is_among olds t.0.unit) (λ among.
        both_ways (is_pending (pending_of b.cache) x.key) (not-true (is_pending (pending_of b.cache) x.key) f.1)
        (subst (λ (s : Standing). is_pending (pending_of b.cache) s.key ≡ true) t.2 (goes_pending t.0 t.1 among))) in
        subst (λ y. In y (standing_of (view_of h done))) t.2 (map_in standing_block (taken (view_of h done)) t.0
        (stands_taken h now (read_now blocks known laws file b of grown) t.0.unit t.0 (none_rejected blocks known laws file b of grown)
        (still_open blocks known laws file b of grown t.0 t.1 none))))
        (λ behind.
        let p = in_filter_map standing_of_pending (pending_of b.cache) x behind in
        let e = in_map (λ (y : Touched). in_ledger y.0 y.1) b.cache p.0 p.1 in
        let c = comes_by e.0 x e.0.1.block refl (ap standing_of_pending e.2 ∙ p.2) in
        subst (λ y. In y (standing_of (view_of h done))) (new_is e.0 c.packed e.1 c.has ∙ c.is) (map_in standing_block (taken (view_of h done)) (its_block blocks known laws file b of grown e.0 c.packed e.1 c.has)
        (stands_taken h now (read_now blocks known laws file b of grown) e.0.1.unit (its_block blocks known laws file b of grown e.0 c.packed e.1 c.has)
        (none_rejected blocks known laws file b of grown)
        (new_open blocks known laws file b of grown e.0 c.packed e.1 c.has))))
        (in_append (filter (λ (s : Standing). not (is_pending (pending_of b.cache) s.key)) before) (filter_map standing_of_pending (pending_of b.cache)) x a);
    back = λ x a.
        let t = in_map standing_block (taken (view_of h done)) x a in
        append_in (filter (λ (s : Standing). not (is_pending (pending_of b.cache) s.key)) before) (filter_map standing_of_pending (pending_of b.cache)) x
        (⊎_elim
        (λ k.
        let in_old = stands_taken h old (read blocks known file b of grown) t.0.unit t.0 of.knows.gates k.stood in
        inl (subst (λ y. In y (filter (λ (s : Standing). not (is_pending (pending_of b.cache) s.key)) before)) t.2
        (filter_in (λ (s : Standing). not (is_pending (pending_of b.cache) s.key)) before (standing_block t.0)
        (map_in standing_block (taken (view_of h file)) t.0 in_old)
        (not_from_false _ (false_from_ne_true (is_pending (pending_of b.cache) (spelled t.0.key)) (λ yes.
        both_ways (is_among olds t.0.unit) k.stays_open (pending_goes t.0 in_old yes)))))))
        (λ m.
        inr (subst (λ y. In y (filter_map standing_of_pending (pending_of b.cache)))
        (sym (new_is m.touched m.packed m.there m.has) ∙ ap standing_block m.is ∙ t.2)
        (filter_map_in standing_of_pending (pending_of b.cache) (in_ledger m.touched.0 m.touched.1)
        (record { key = m.touched.0; run = run m.touched.1.unit m.packed.exp }) (map_in (λ (y : Touched). in_ledger y.0 y.1) b.cache m.touched m.there)
        (ap (λ o. option_map (λ at. record { key = m.touched.0; run = at }) (option_map (λ (q : Payload). q.run) (option_map (payload_at m.touched.1.unit) o)))
        m.has))))
        (classified blocks known laws file b of grown t.0.unit t.0 (taken_stands h now (read_now blocks known laws file b of grown) t.0 t.1)));
  }

pub rest_same : (b : Book) (was standing : List Standing) → b.place.head.segments ≡ b.space.segments
    → record (flush (ledger_of was b)) { standing = standing } ≡ ledger_of standing (settled b)
rest_same b was standing grown = λ i. record {
  max = b.place.head.max_segments;
  filed = sym grown i;
  segments = b.space.segments;
  standing = standing;
  pending = [];
}
