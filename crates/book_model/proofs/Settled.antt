-- The book after a flush is that of the file as it is then.
use Rattle.std.proofs.Common.{◌≡◌, ◌<◌, ◌⊎◌, inl, inr, ⊎_elim, ℕ, ◌==◌, true, false, List, Option, Some, None, Ok, refl, sym, ap, ◌∙◌, subst, arith}
use Rattle.std.specs.Prelude.{not, option_map}
use Rattle.std.proofs.lemmas.Nat.{pow_pos}
use Rattle.std.proofs.lemmas.Bool.{leb-true, cases_Bool, both_ways, or_cases, or_left, or_right, and_parts, and_from, not-true, not_from_false, false_from_ne_true, le-leb, eqb-true, eq-eqb}
use Rattle.term_model.specs.Hash.{hash_of}
use Rattle.etf_model.specs.Canonical.{spelled}
use Rattle.space_model.specs.Apart.{In}
use Rattle.file_model.specs.declared.block.Packed.{Packed}
use Rattle.file_model.specs.declared.entry.Entry.{Entry}
use Rattle.file_model.specs.declared.head.Head.{Head}
use Rattle.file_model.specs.Layout.{whole_segments}
use Rattle.file_model.specs.Header.{units_per_segment}
use Rattle.file_model.specs.Block.{Block}
use Rattle.file_model.specs.View.{Units, view_of, units_in}
use Rattle.file_model.specs.Taken.{taken, key_hash, entry_of, entries}
use Rattle.file_model.specs.Fit.{has_segments, has_no_rejects}
use Rattle.file_model.specs.Gates.{AreRead, StandsOpen, NoneMeet, NoneShareKeys, HaveBlocks, is_among, opened}
use Rattle.file_model.specs.BodyWrites.{Body}
use Rattle.file_model.specs.Flush.{IsFlushable, news, without_olds}
use Rattle.book_model.specs.Book.{Book, entry_run, new_entry, pending_entry, pending_entries, olds_of, IsInOrder}
use Rattle.book_model.specs.Planning.{IsStanding}
use Rattle.book_model.specs.OfFile.{IsOf}
use Rattle.book_model.specs.Flushing.{body_of, bodies_of, old_units, settled}
use Rattle.book_model.specs.Below.{BlockLaws, FlushLaws, WriteLaws}
use Rattle.book_model.proofs.Members.{map_in, in_map, filter_map_in, in_filter_map, any_passes, passes_any}
use Rattle.book_model.proofs.Waits.{Touched, one_of_key}
use Rattle.book_model.proofs.Runs.{not_apart, entries_pair, same_unit}
use Rattle.book_model.proofs.Released.{entry_taken}
use Rattle.book_model.proofs.Filed.{pending_at_unit, filed_from, filed_in}
use Rattle.book_model.proofs.Blocks.{taken_stands, stands_taken}
use Rattle.book_model.proofs.Opened.{no_keys}
use Rattle.book_model.proofs.Flushable.{body_from, unit_from, unit_among, for_key, block, its_packed, inside, read, flushable}
use Rattle.book_model.proofs.Written.{body_at, among_news, now_count, stays, comes, gates, header}

-- ---- the entry of a key that waits

record Waits (b : Book) (f : Entry) : Type 0 where
  touched : Touched
  packed : Packed
  there : In touched b.cache
  has : touched.1.block ≡ Some packed
  is : new_entry touched.1.hash touched.1.unit packed ≡ f

waits_by : (b : Book) (e : Touched) (f : Entry) (o : Option Packed) → In e b.cache → e.1.block ≡ o → option_map (new_entry e.1.hash e.1.unit) o ≡ Some f → Waits b f
waits_by b e f None there has is = absurd (cc is)
waits_by b e f (Some p) there has is = record { touched = e; packed = p; there = there; has = has; is = cc is }

waits_of : (b : Book) (f : Entry) → In f (pending_entries b.cache) → Waits b f
waits_of b f a = let r = in_filter_map (λ (e : Touched). pending_entry e.1) b.cache f a in waits_by b r.0 f r.0.1.block r.1 refl r.2

module _ (blocks : BlockLaws) (known : FlushLaws) (laws : WriteLaws) (file : List ℕ) (b : Book) (of : IsOf file b)
    (grown : b.place.head.segments ≡ b.space.segments) where
  abbrev h : Head
  h = b.place.head

  abbrev n : ℕ
  n = units_per_segment h

  abbrev old : Units
  old = units_in n h file

  abbrev bodies : List Body
  bodies = bodies_of b.cache

  abbrev olds : List ℕ
  olds = old_units b.cache

  abbrev done : List ℕ
  done = without_olds n bodies olds file

  abbrev now : Units
  now = units_in n h done

  some : 0 < n
  some = omega arith

  can : IsFlushable n h bodies olds file
  can = flushable blocks known file b of grown

  pub read_now : AreRead h now
  read_now = blocks.read n h done

  order : IsInOrder b
  order = of.order.order

  -- ---- the new blocks

  module _ (e : Touched) (p : Packed) (there : In e b.cache) (has : e.1.block ≡ Some p) where
    abbrev pub its_block : Block
    its_block = block blocks known file b of grown e p there has

    its_body : In (record { unit = e.1.unit; exp = p.exp; bytes = p.block }) bodies
    its_body = filter_map_in (λ (x : Touched). body_of x.1) b.cache e (record { unit = e.1.unit; exp = p.exp; bytes = p.block }) there
        (ap (λ o. option_map (λ (q : Packed). record { unit = e.1.unit; exp = q.exp; bytes = q.block }) o) has)

    its_inside : e.1.unit < old.count
    its_inside = inside blocks known file b of grown e p there has

    new_stands : now.stands e.1.unit ≡ Ok its_block
    new_stands = comes laws n h bodies olds file some can (record { unit = e.1.unit; exp = p.exp; bytes = p.block }) its_block its_body
        (its_packed blocks known file b of grown e p there has) its_inside

    entry_waits : In (new_entry e.1.hash e.1.unit p) (pending_entries b.cache)
    entry_waits = filter_map_in (λ (x : Touched). pending_entry x.1) b.cache e (new_entry e.1.hash e.1.unit p) there
        (ap (λ o. option_map (new_entry e.1.hash e.1.unit) o) has)

    not_old : is_among olds e.1.unit ≡ false
    not_old = false_from_ne_true (is_among olds e.1.unit) (λ among.
        let r = unit_from (olds_of b.cache) e.1.unit among in
        let taken = entry_taken b order (new_entry e.1.hash e.1.unit p) (order.listed (new_entry e.1.hash e.1.unit p) entry_waits) in
        not_apart (entry_run (new_entry e.1.hash e.1.unit p)) (entry_run r.entry) (sym r.is) (of.order.parted.beside
        (entry_run (new_entry e.1.hash e.1.unit p)) (entry_run r.entry) taken
        (order.deferred.back (entry_run r.entry) (map_in entry_run (olds_of b.cache) r.entry r.there))))

    pub new_open : StandsOpen now.is_open now e.1.unit its_block
    new_open = record {
      inside = let c = now_count laws n h bodies olds file some can in let l = its_inside in omega arith;
      opened = gates laws n h bodies olds file some can e.1.unit its_inside
          ∙ and_from _ _ (or_right (old.is_open e.1.unit) (is_among (news bodies) e.1.unit)
          (among_news bodies (record { unit = e.1.unit; exp = p.exp; bytes = p.block }) its_body)) (not_from_false _ not_old);
      stands = new_stands;
    }

    pub its_entry : entry_of its_block ≡ new_entry e.1.hash e.1.unit p
    unfolding key_hash
    its_entry =
        let f = for_key blocks known file b of grown e p there has in
        λ i. record { hash = ((ap hash_of f.spelled_is) ∙ sym (order.hashed e there)) i; unit = e.1.unit; exp = p.exp; count = sym f.made.count i }

  -- ---- what stands at open units

  pub record New (u : ℕ) (t : Block) : Type 0 where
    pub touched : Touched
    pub packed : Packed
    pub there : In touched b.cache
    pub has : touched.1.block ≡ Some packed
    pub at : touched.1.unit ≡ u
    pub is : its_block touched packed there has ≡ t

  pub record Kept (u : ℕ) (t : Block) : Type 0 where
    pub stood : StandsOpen old.is_open old u t
    pub stays_open : is_among olds u ≡ false
    pub standing : IsStanding b (entry_of t)

  kept_of : (u : ℕ) (t : Block) → StandsOpen now.is_open now u t → u < old.count → is_among olds u ≡ false → old.is_open u ≡ true → Kept u t
  kept_of u t s l none opened =
      let stood : StandsOpen old.is_open old u t =
      record { inside = l; opened = opened; stands = sym (stays laws n h bodies olds file some can u l opened) ∙ s.stands } in
      let own : (entry_of t).unit ≡ u = (read_now u t s.stands).unit in
      record {
        stood = stood;
        stays_open = none;
        standing = ⊎_elim
            (λ x. x)
            (λ x. absurd (both_ways (is_among olds u) none (subst (λ y. is_among olds y ≡ true) own (unit_among (olds_of b.cache) (entry_of t) x))))
            (filed_from b (entry_of t) (of.knows.lists.back (entry_of t) (map_in entry_of (taken (view_of h file)) t
            (stands_taken h old (read blocks known file b of grown) u t of.knows.gates stood))));
      }

  new_of : (u : ℕ) (t : Block) → StandsOpen now.is_open now u t → is_among (news bodies) u ≡ true → New u t
  new_of u t s among =
      let r = body_at bodies u among in
      let w = body_from b.cache r.body r.among in
      let at : w.touched.1.unit ≡ u = ap (λ (x : Body). x.unit) w.is ∙ r.at in
      let stands = new_stands w.touched w.packed w.there w.has in
      let here : now.stands u ≡ Ok (its_block w.touched w.packed w.there w.has) = ap now.stands (sym at) ∙ stands in
      let other = s.stands in
      record { touched = w.touched; packed = w.packed; there = w.there; has = w.has; at = at; is = cc (here, other) }

  pub classified : (u : ℕ) (t : Block) → StandsOpen now.is_open now u t → Kept u t ⊎ New u t
  classified u t s =
      let c = now_count laws n h bodies olds file some can in
      let inside = s.inside in
      let l : u < old.count = omega arith in
      let g = and_parts (opened (news bodies) old.is_open u) (not (is_among olds u)) (sym (gates laws n h bodies olds file some can u l) ∙ s.opened) in
      ⊎_elim
      (λ was. inl (kept_of u t s l (not-true (is_among olds u) g.1) was))
      (λ among. inr (new_of u t s among))
      (or_cases (old.is_open u) (is_among (news bodies) u) g.0)

  -- each has its entry in the directory
  in_directory : (u : ℕ) (t : Block) → StandsOpen now.is_open now u t → In (entry_of t) b.directory
  in_directory u t s = ⊎_elim
      (λ k. k.standing.there)
      (λ m. subst (λ x. In (entry_of x) b.directory) m.is (subst (λ x. In x b.directory) (sym (its_entry m.touched m.packed m.there m.has))
      (order.listed (new_entry m.touched.1.hash m.touched.1.unit m.packed) (entry_waits m.touched m.packed m.there m.has))))
      (classified u t s)

  none_meet : NoneMeet now.is_open now
  none_meet u w s t x y l =
      let a : (entry_of s).unit ≡ u = (read_now u s x.stands).unit in
      let c : (entry_of t).unit ≡ w = (read_now w t y.stands).unit in
      let more = pow_pos t.exp in
      ⊎_elim
      (λ one. absurd (let same = ap (λ (e : Entry). e.unit) one in omega arith))
      (λ apart. ⊎_elim (λ p. omega arith) (λ p. absurd (omega arith)) apart)
      (entries_pair b.directory (entry_of s) (entry_of t) order.entries (in_directory u s x) (in_directory w t y))

  -- a block that stays and a new one have other keys
  kept_new : (u w : ℕ) (s t : Block) → Kept u s → New w t → s.key ≡ t.key → ⊥
  kept_new u w s t k m same =
      let f = for_key blocks known file b of grown m.touched m.packed m.there m.has in
      let key : spelled s.key ≡ m.touched.0 = ap spelled same ∙ ap (λ (x : Block). spelled x.key) (sym m.is) ∙ f.spelled_is in
      let in_old = stands_taken h old (read blocks known file b of grown) u s of.knows.gates k.stood in
      let old_is = (of.knows.olds m.touched m.there).every s in_old key in
      let own : (entry_of s).unit ≡ u = ((read blocks known file b of grown) u s k.stood.stands).unit in
      both_ways (is_among olds u) k.stays_open (subst (λ x. is_among olds x ≡ true) own (unit_among (olds_of b.cache) (entry_of s)
      (filter_map_in (λ (x : Touched). x.1.old) b.cache m.touched (entry_of s) m.there old_is)))

  new_new : (u w : ℕ) (s t : Block) → New u s → New w t → u < w → s.key ≡ t.key → ⊥
  new_new u w s t k m l same =
      let f = for_key blocks known file b of grown k.touched k.packed k.there k.has in
      let g = for_key blocks known file b of grown m.touched m.packed m.there m.has in
      let keys : k.touched.0 ≡ m.touched.0 =
      sym f.spelled_is ∙ ap (λ (x : Block). spelled x.key) k.is ∙ ap spelled same ∙ ap (λ (x : Block). spelled x.key) (sym m.is) ∙ g.spelled_is in
      let one = one_of_key b.cache k.touched m.touched of.order.distinct k.there m.there keys in
      let units : k.touched.1.unit ≡ m.touched.1.unit = ap (λ (x : Touched). x.1.unit) one in
      let at = k.at in
      let there = m.at in
      omega arith

  none_share : NoneShareKeys now.is_open now
  none_share u w s t x y l same = ⊎_elim
      (λ k. ⊎_elim
      (λ m. (blocks.taken h old (read blocks known file b of grown) of.knows.gates).keys u w s t k.stood m.stood l same)
      (λ m. kept_new u w s t k m same)
      (classified w t y))
      (λ k. ⊎_elim
      (λ m. kept_new w u t s m k (sym same))
      (λ m. new_new u w s t k m l same)
      (classified w t y))
      (classified u s x)

  have_blocks : HaveBlocks now.is_open now
  have_blocks u l o =
      let c = now_count laws n h bodies olds file some can in
      let inside : u < old.count = omega arith in
      let g = and_parts (opened (news bodies) old.is_open u) (not (is_among olds u)) (sym (gates laws n h bodies olds file some can u inside) ∙ o) in
      ⊎_elim
      (λ was.
      let t = (blocks.taken h old (read blocks known file b of grown) of.knows.gates).blocks u inside was in
      (t.0, stays laws n h bodies olds file some can u inside was ∙ t.1))
      (λ among.
      let r = body_at bodies u among in
      let w = body_from b.cache r.body r.among in
      let at : w.touched.1.unit ≡ u = ap (λ (x : Body). x.unit) w.is ∙ r.at in
      (its_block w.touched w.packed w.there w.has, ap now.stands (sym at) ∙ new_stands w.touched w.packed w.there w.has))
      (or_cases (old.is_open u) (is_among (news bodies) u) g.0)

  pub none_rejected : has_no_rejects (view_of h done) ≡ true
  none_rejected = blocks.only h now read_now (record { blocks = have_blocks; apart = none_meet; keys = none_share })

  -- ---- the directory lists the blocks

  waiting_listed : (f : Entry) → In f (pending_entries b.cache) → In f (entries (view_of h done))
  waiting_listed f a =
      let w = waits_of b f a in
      let t = stands_taken h now read_now w.touched.1.unit (its_block w.touched w.packed w.there w.has) none_rejected
      (new_open w.touched w.packed w.there w.has) in
      subst (λ x. In x (entries (view_of h done))) (its_entry w.touched w.packed w.there w.has ∙ w.is)
      (map_in entry_of (taken (view_of h done)) (its_block w.touched w.packed w.there w.has) t)

  -- a block that stood and does not go still stands
  pub still_open : (t : Block) → In t (taken (view_of h file)) → is_among olds t.unit ≡ false → StandsOpen now.is_open now t.unit t
  still_open t a none =
      let stood = taken_stands h old (read blocks known file b of grown) t a in
      let c = now_count laws n h bodies olds file some can in
      let l = stood.inside in
      record {
        inside = omega arith;
        opened = gates laws n h bodies olds file some can t.unit l
            ∙ and_from _ _ (or_left (old.is_open t.unit) (is_among (news bodies) t.unit) stood.opened) (not_from_false _ none);
        stands = stays laws n h bodies olds file some can t.unit l stood.opened ∙ stood.stands;
      }

  standing_listed : (e : Entry) → IsStanding b e → In e (entries (view_of h done))
  standing_listed e s =
      let r = in_map entry_of (taken (view_of h file)) e (of.knows.lists.there e (filed_in b e (inl s))) in
      let at : r.0.unit ≡ e.unit = ap (λ (x : Entry). x.unit) r.2 in
      let none : is_among olds r.0.unit ≡ false = false_from_ne_true (is_among olds r.0.unit) (λ among.
      let o = unit_from (olds_of b.cache) r.0.unit among in
      not_apart (entry_run e) (entry_run o.entry) (sym at ∙ sym o.is) (of.order.parted.beside (entry_run e) (entry_run o.entry) (entry_taken b order e s.there)
      (order.deferred.back (entry_run o.entry) (map_in entry_run (olds_of b.cache) o.entry o.there)))) in
      subst (λ x. In x (entries (view_of h done))) r.2
      (map_in entry_of (taken (view_of h done)) r.0 (stands_taken h now read_now r.0.unit r.0 none_rejected (still_open r.0 r.1 none)))

  listed : (e : Entry) → In e b.directory → In e (entries (view_of h done))
  listed e a = ⊎_elim
      (λ yes.
      let f = any_passes (λ (x : Entry). x.unit == e.unit) (pending_entries b.cache) yes in
      let one = same_unit b.directory f.member e order.entries (order.listed f.member f.there) a (eqb-true f.member.unit e.unit f.is) in
      subst (λ x. In x (entries (view_of h done))) one (waiting_listed f.member f.there))
      (λ no. standing_listed e (record {
        there = a;
        not_pending = λ f there same. both_ways (pending_at_unit b e) no
            (passes_any (λ (x : Entry). x.unit == e.unit) (pending_entries b.cache) f there (eq-eqb f.unit e.unit same));
      }))
      (cases_Bool (pending_at_unit b e))

  -- ---- all of it

  whole_done : has_segments h done ≡ true
  whole_done =
      let l = blocks.located done b.place (header laws n h bodies olds file some can ∙ of.place) in
      let k = blocks.located file b.place of.place in
      let now_whole = l.2 in
      let was_whole = k.2 in
      let all = leb-true h.segments (whole_segments n file) of.whole in
      le-leb h.segments (whole_segments n done) (omega arith)

  pub settles : IsOf done (settled b)
  settles = record {
    place = header laws n h bodies olds file some can ∙ of.place;
    whole = whole_done;
    knows = record {
      gates = none_rejected;
      lists = record {
        there = λ e a. ⊎_elim (λ s. listed e s.there) (λ o. absurd o) (filed_from (settled b) e a);
        back = λ e a.
            let r = in_map entry_of (taken (view_of h done)) e a in
            filed_in (settled b) e (inl (record {
              there = subst (λ x. In x b.directory) r.2 (in_directory r.0.unit r.0 (taken_stands h now read_now r.0 r.1));
              not_pending = λ f there same. there;
            }));
      };
      olds = λ e a. absurd a;
      packed = λ e p a is. absurd a;
    };
    order = record {
      order = record {
        header = order.header;
        at_least = order.at_least;
        at_most = order.at_most;
        entries = order.entries;
        taken = order.taken;
        units = tt;
        listed = λ e a. absurd a;
        deferred = record { there = λ r a. a; back = λ r a. a };
        hashed = λ e a. absurd a;
      };
      parted = record {
        taken_runs = of.order.parted.taken_runs;
        deferred_runs = λ r a. absurd a;
        taken_apart = of.order.parted.taken_apart;
        deferred_apart = tt;
        beside = λ r q a d. absurd d;
      };
      distinct = no_keys;
    };
  }
