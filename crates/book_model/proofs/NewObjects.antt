-- After a flush each key that waited has its new objects.
use Rattle.std.proofs.Common.{◌≡◌, ⊎_elim, ℕ, true, List, [], Some, None, Ok, sym, ap, ◌∙◌, subst, arith}
use Rattle.std.specs.Prelude.{option_map}
use Rattle.std.specs.List.{list_any}
use Rattle.std.proofs.lemmas.Bool.{cases_Bool, both_ways, false_from_ne_true}
use Rattle.term_model.specs.TermValue.{TermValue}
use Rattle.term_model.specs.Order.{is_same}
use Rattle.term_model.specs.Same.{equal_from_same, same_self}
use Rattle.table_model.specs.Table.{objects_of}
use Rattle.etf_model.specs.Canonical.{spelled}
use Rattle.space_model.specs.Apart.{In}
use Rattle.file_model.specs.declared.block.Packed.{Packed}
use Rattle.file_model.specs.declared.entry.Entry.{Entry}
use Rattle.file_model.specs.declared.head.Head.{Head}
use Rattle.file_model.specs.Header.{units_per_segment}
use Rattle.file_model.specs.Block.{Block}
use Rattle.file_model.specs.View.{Units, view_of, units_in}
use Rattle.file_model.specs.Taken.{taken, entry_of}
use Rattle.file_model.specs.Gates.{StandsOpen, is_among}
use Rattle.file_model.specs.BodyWrites.{Body, IsPacked}
use Rattle.file_model.specs.Flush.{IsFlushed, flushed, table_in}
use Rattle.write_cache.specs.Waiting.{state_of}
use Rattle.book_model.specs.Book.{Book, olds_of}
use Rattle.book_model.specs.Planning.{IsBlockFor}
use Rattle.book_model.specs.OfFile.{IsOf}
use Rattle.book_model.specs.Flushing.{body_of, bodies_of, old_units, flushed_file, table_with_head, HaveNew}
use Rattle.book_model.specs.Below.{BlockLaws, FlushLaws, WriteLaws}
use Rattle.book_model.proofs.Members.{filter_map_in, in_filter_map, any_passes, passes_any}
use Rattle.book_model.proofs.Waits.{Touched, other_key, one_of_key, none_in}
use Rattle.book_model.proofs.Blocks.{of_all, all_of, taken_stands, stands_taken}
use Rattle.book_model.proofs.Flushable.{body_from, unit_from, unit_among, its_run, one_block, for_key, block, its_packed, read, flushable}

module _ (blocks : BlockLaws) (known : FlushLaws) (laws : WriteLaws) (file : List ℕ) (b : Book) (of : IsOf file b)
    (grown : b.place.head.segments ≡ b.space.segments) where
  abbrev h : Head
  h = b.place.head

  abbrev n : ℕ
  n = units_per_segment h

  abbrev old : Units
  old = units_in n h file

  abbrev bodies : List Body
  bodies = bodies_of b.cache

  after : IsFlushed n h bodies (old_units b.cache) file
  after = laws.flushed n h bodies (old_units b.cache) file (omega arith) (flushable blocks known file b of grown)

  -- the block of a body is that of a key that waits
  body_key : (x : Body) (t : Block) → In x bodies → IsPacked n h x t → (e : Touched) × In e b.cache × ((e.1.block ≡ None) → ⊥) × (spelled t.key ≡ e.0)
  body_key x t a packed =
      let w = body_from b.cache x a in
      let own : IsPacked n h x (block blocks known file b of grown w.touched w.packed w.there w.has) =
      subst (λ y. IsPacked n h y (block blocks known file b of grown w.touched w.packed w.there w.has)) w.is
      (its_packed blocks known file b of grown w.touched w.packed w.there w.has) in (
        w.touched,
        w.there,
        (λ none. let has = w.has in absurd (cc (none, has))),
        ap (λ (y : Block). spelled y.key) (one_block blocks known file b of grown x t (block blocks known file b of grown w.touched w.packed w.there w.has) packed own)
            ∙ (for_key blocks known file b of grown w.touched w.packed w.there w.has).spelled_is,
      )

  comes : (e : Touched) (p : Packed) → In e b.cache → e.1.block ≡ Some p → (f : IsBlockFor h e.0 p)
      → objects_of (flushed n h bodies (old_units b.cache) file) f.term ≡ f.objects
  comes e p there has f =
      let body : In (record { unit = e.1.unit; exp = p.exp; bytes = p.block }) bodies =
      filter_map_in (λ (x : Touched). body_of x.1) b.cache e (record { unit = e.1.unit; exp = p.exp; bytes = p.block }) there
      (ap (λ o. option_map (λ (q : Packed). record { unit = e.1.unit; exp = q.exp; bytes = q.block }) o) has) in
      of_all (λ x. (t : Block) → IsPacked n h x t → objects_of (flushed n h bodies (old_units b.cache) file) t.key ≡ t.objects) bodies
      (record { unit = e.1.unit; exp = p.exp; bytes = p.block }) after.comes body
      (record { unit = e.1.unit; exp = p.exp; key = f.term; objects = f.objects })
      (known.packed h e.1.unit f.objects f.term p f.may_pack f.made f.of_key f.fits (its_run blocks known file b of grown e p there has).aligned)

  -- no new block has the key of one that waits without a block
  no_new : (e : Touched) (k : TermValue) → In e b.cache → e.1.block ≡ None → spelled k ≡ e.0 → (x : Body) → In x bodies → (t : Block) → IsPacked n h x t
      → t.key ≡ k → ⊥
  no_new e k there none own x a t packed same =
      let r = body_key x t a packed in
      let one = one_of_key b.cache r.0 e of.order.distinct r.1 there (sym r.3 ∙ ap spelled same ∙ own) in
      r.2 (ap (λ (y : Touched). y.1.block) one ∙ none)

  -- no new block has the key of one that does not wait
  not_new : (k : TermValue) → state_of b.cache (spelled k) ≡ None → (x : Body) → In x bodies → (t : Block) → IsPacked n h x t → t.key ≡ k → ⊥
  not_new k none x a t packed same =
      let r = body_key x t a packed in
      other_key r.0.0 (spelled k) (none_in b.cache (spelled k) r.0 none r.1) (sym r.3 ∙ ap spelled same)

  -- the unit of a block that goes, and the key that waits for it
  pub goes_with : (u : ℕ) (s : Block) → StandsOpen old.is_open old u s → is_among (old_units b.cache) u ≡ true → (e : Touched) × In e b.cache × (spelled s.key ≡ e.0)
  goes_with u s stands among =
      let o = unit_from (olds_of b.cache) u among in
      let w = in_filter_map (λ (x : Touched). x.1.old) b.cache o.entry o.there in
      let has = (of.knows.olds w.0 w.1).some o.entry w.2 in
      let stood = taken_stands h old (read blocks known file b of grown) has.block has.taken in
      let at : has.block.unit ≡ u = ap (λ (x : Entry). x.unit) has.entry ∙ o.is in
      let here : old.stands u ≡ Ok has.block = ap old.stands (sym at) ∙ stood.stands in
      let there = stands.stands in
      let same : s ≡ has.block = cc (here, there) in
      (w.0, w.1, ap (λ (x : Block). spelled x.key) same ∙ has.spelled_is)

  -- a key that waits without a block: its block goes, where it has one
  gone_with : (e : Touched) (k : TermValue) → In e b.cache → e.1.block ≡ None → spelled k ≡ e.0 → (t : Block) → In t (taken (view_of h file)) → t.key ≡ k
      → objects_of (flushed n h bodies (old_units b.cache) file) k ≡ []
  gone_with e k there none own t a same =
      let old_is = (of.knows.olds e there).every t a (ap spelled same ∙ own) in
      let among = unit_among (olds_of b.cache) (entry_of t) (filter_map_in (λ (x : Touched). x.1.old) b.cache e (entry_of t) there old_is) in
      subst (λ x. objects_of (flushed n h bodies (old_units b.cache) file) x ≡ []) same
      (after.goes t.unit t (taken_stands h old (read blocks known file b of grown) t a) among
      (all_of (λ x. (y : Block) → IsPacked n h x y → y.key ≡ t.key → ⊥) bodies (λ x c y packed key. no_new e k there none own x c y packed (key ∙ same))))

  gone_without : (e : Touched) (k : TermValue) → In e b.cache → e.1.block ≡ None → spelled k ≡ e.0
      → ((t : Block) → In t (taken (view_of h file)) → t.key ≡ k → ⊥) → objects_of (flushed n h bodies (old_units b.cache) file) k ≡ []
  gone_without e k there none own no_block =
      let stood : (u : ℕ) (s : Block) → StandsOpen old.is_open old u s → s.key ≡ k → ⊥ = λ u s stands same.
      no_block s (stands_taken h old (read blocks known file b of grown) u s of.knows.gates stands) same in
      after.stays k (all_of (λ x. (y : Block) → IsPacked n h x y → y.key ≡ k → ⊥) bodies
      (λ x c y packed key. no_new e k there none own x c y packed key))
      (λ u s stands same. absurd (stood u s stands same))
      ∙ laws.no_block h old old.is_open k (read blocks known file b of grown)
      (blocks.taken h old (read blocks known file b of grown) of.knows.gates).apart stood

  goes : (e : Touched) (k : TermValue) → In e b.cache → e.1.block ≡ None → spelled k ≡ e.0 → objects_of (flushed n h bodies (old_units b.cache) file) k ≡ []
  goes e k there none own = ⊎_elim
      (λ yes.
      let r = any_passes (λ (t : Block). is_same t.key k) (taken (view_of h file)) yes in
      gone_with e k there none own r.member r.there (equal_from_same r.member.key k r.is))
      (λ no. gone_without e k there none own (λ t a same.
      both_ways (list_any (λ (x : Block). is_same x.key k) (taken (view_of h file))) no
      (passes_any (λ (x : Block). is_same x.key k) (taken (view_of h file)) t a
      (subst (λ x. is_same x k ≡ true) (sym same) (same_self k)))))
      (cases_Bool (list_any (λ (t : Block). is_same t.key k) (taken (view_of h file))))

  stays : (k : TermValue) → state_of b.cache (spelled k) ≡ None → objects_of (flushed n h bodies (old_units b.cache) file) k ≡ objects_of (table_in n h file) k
  stays k none = after.stays k
      (all_of (λ x. (y : Block) → IsPacked n h x y → y.key ≡ k → ⊥) bodies (λ x a y packed same. not_new k none x a y packed same))
      (λ u s stands same. false_from_ne_true (is_among (old_units b.cache) u) (λ among.
      let w = goes_with u s stands among in
      other_key w.0.0 (spelled k) (none_in b.cache (spelled k) w.0 none w.1) (sym w.2 ∙ ap spelled same)))

  pub have_new : HaveNew b (table_with_head h file) (table_with_head h (flushed_file b file))
  have_new = record { comes = comes; goes = goes; stays = stays }
