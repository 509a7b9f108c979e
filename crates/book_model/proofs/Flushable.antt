-- A book of a file has what its flush needs.
use Rattle.std.proofs.Common.{◌≡◌, ◌≤◌, ◌<◌, ◌⊎◌, inl, inr, ⊎_elim, ℕ, ◌+◌, ◌*◌, ◌^◌, ◌==◌, true, List, [], ◌∷◌, length, map, Option, Some, None, refl, sym, ap, ◌∙◌, subst, arith}
use Rattle.std.specs.Prelude.{option_map}
use Rattle.std.specs.List.{AllByRecursion}
use Rattle.std.proofs.Math.Pow.{pow_mono}
use Rattle.std.proofs.lemmas.Nat.{pow_pos}
use Rattle.std.proofs.lemmas.Bool.{leb-true, eqb-true, eq-eqb, or_cases, or_left, or_right}
use Rattle.std.proofs.lemmas.List.{length-append}
use Rattle.etf_model.specs.Canonical.{spelled}
use Rattle.space_model.specs.Sizes.{unit_size, head_size}
use Rattle.space_model.specs.Least.{log2}
use Rattle.space_model.specs.Apart.{In, Pairs, IsRun}
use Rattle.file_model.specs.declared.block.Packed.{Packed}
use Rattle.file_model.specs.declared.entry.Entry.{Entry}
use Rattle.file_model.specs.declared.head.Head.{Head}
use Rattle.file_model.specs.Layout.{whole_segments}
use Rattle.file_model.specs.Header.{units_per_segment, segments_in}
use Rattle.file_model.specs.Block.{Block}
use Rattle.file_model.specs.View.{Units, view_of, units_in}
use Rattle.file_model.specs.Taken.{entry_of}
use Rattle.file_model.specs.Gates.{AreRead, StandsOpen, is_among}
use Rattle.file_model.specs.Free.{IsFreeIn}
use Rattle.file_model.specs.BodyWrites.{Body, head_bytes, HasRoom, MeetsNone, RunsApart, Pairs as BodyPairs, IsPacked}
use Rattle.file_model.specs.Packing.{payload_of}
use Rattle.file_model.specs.Flush.{IsNew, OtherKeys, IsFlushable}
use Rattle.write_cache.specs.declared.pending.Pending.{Pending}
use Rattle.write_cache.specs.Waiting.{Waiting}
use Rattle.book_model.specs.Book.{Book, entry_run, new_entry, pending_entry, pending_entries, olds_of, MeetsNot}
use Rattle.book_model.specs.Planning.{IsBlockFor}
use Rattle.book_model.specs.OfFile.{IsOf}
use Rattle.book_model.specs.Flushing.{body_of, bodies_of, old_units}
use Rattle.book_model.specs.Below.{BlockLaws, FlushLaws}
use Rattle.book_model.proofs.Members.{filter_map_in, in_filter_map, Through, pairs_also, pairs_filter_map, filter_map_pairs}
use Rattle.book_model.proofs.Waits.{Touched, OtherWaits, distinct_pairs, other_key}
use Rattle.book_model.proofs.Blocks.{all_of, taken_stands, stands_taken}
use Rattle.book_model.proofs.Headers.{page_there}
use Rattle.book_model.proofs.Released.{entry_taken}
use Rattle.book_model.proofs.OfFile.{follows}

-- ---- a body, and the key that waits with it

pub record BodyOf (w : Waiting) (x : Body) : Type 0 where
  pub touched : Touched
  pub packed : Packed
  pub there : In touched w
  pub has : touched.1.block ≡ Some packed
  pub is : record { unit = touched.1.unit; exp = packed.exp; bytes = packed.block } ≡ x

packed_by : (w : Waiting) (e : Touched) (x : Body) (o : Option Packed) → In e w → e.1.block ≡ o
    → option_map (λ (p : Packed). record { unit = e.1.unit; exp = p.exp; bytes = p.block }) o ≡ Some x → BodyOf w x
packed_by w e x None there has is = absurd (cc is)
packed_by w e x (Some p) there has is = record { touched = e; packed = p; there = there; has = has; is = cc is }

pub body_from : (w : Waiting) (x : Body) → In x (bodies_of w) → BodyOf w x
body_from w x a = let r = in_filter_map (λ (e : Touched). body_of e.1) w x a in packed_by w r.0 x r.0.1.block r.1 refl r.2

-- the entry of the same block
entry_by : (s : Pending) (u : Body) (o : Option Packed) → option_map (λ (p : Packed). record { unit = s.unit; exp = p.exp; bytes = p.block }) o ≡ Some u
    → (f : Entry) × (option_map (new_entry s.hash s.unit) o ≡ Some f) × (f.unit ≡ u.unit) × (f.exp ≡ u.exp)
entry_by s u None is = absurd (cc is)
entry_by s u (Some p) is =
    let same : record { unit = s.unit; exp = p.exp; bytes = p.block } ≡ u = cc is in
    (new_entry s.hash s.unit p, refl, ap (λ (x : Body). x.unit) same, ap (λ (x : Body). x.exp) same)

pub body_pairs : (R : Body → Body → Type 0) (bodies : List Body) → Pairs R bodies → BodyPairs R bodies
body_pairs R [] p = tt
body_pairs R (x ∷ xs) p = (all_of (R x) xs p.0, body_pairs R xs p.1)

both_runs : (u v : Body) (f g : Entry) → f.unit ≡ u.unit → f.exp ≡ u.exp → g.unit ≡ v.unit → g.exp ≡ v.exp → MeetsNot f g → RunsApart u v
both_runs u v f g a c d e apart = subst (λ x. (x + 2 ^ u.exp ≤ v.unit) ⊎ (v.unit + 2 ^ v.exp ≤ x)) a
    (subst (λ x. (f.unit + 2 ^ u.exp ≤ x) ⊎ (x + 2 ^ v.exp ≤ f.unit)) d
    (subst (λ x. (f.unit + 2 ^ x ≤ g.unit) ⊎ (g.unit + 2 ^ v.exp ≤ f.unit)) c
    (subst (λ x. (f.unit + 2 ^ f.exp ≤ g.unit) ⊎ (g.unit + 2 ^ x ≤ f.unit)) e apart)))

-- ---- units of entries

pub record UnitOf (entries : List Entry) (u : ℕ) : Type 0 where
  pub entry : Entry
  pub there : In entry entries
  pub is : entry.unit ≡ u

pub unit_from : (entries : List Entry) (u : ℕ) → is_among (map (λ e. e.unit) entries) u ≡ true → UnitOf entries u
unit_from [] u a = absurd (cc a)
unit_from (f ∷ fs) u a = ⊎_elim
    (λ here. record { entry = f; there = inl refl; is = eqb-true f.unit u here })
    (λ later. let r = unit_from fs u later in record { entry = r.entry; there = inr r.there; is = r.is })
    (or_cases (f.unit == u) (is_among (map (λ e. e.unit) fs) u) a)

pub unit_among : (entries : List Entry) (e : Entry) → In e entries → is_among (map (λ e. e.unit) entries) e.unit ≡ true
unit_among [] e a = absurd a
unit_among (f ∷ fs) e a = ⊎_elim
    (λ here. or_left (f.unit == e.unit) (is_among (map (λ e. e.unit) fs) e.unit) (eq-eqb f.unit e.unit (ap (λ (x : Entry). x.unit) here)))
    (λ later. or_right (f.unit == e.unit) (is_among (map (λ e. e.unit) fs) e.unit) (unit_among fs e later))
    a

module _ (blocks : BlockLaws) (known : FlushLaws) (file : List ℕ) (b : Book) (of : IsOf file b)
    (grown : b.place.head.segments ≡ b.space.segments) where
  abbrev h : Head
  h = b.place.head

  abbrev n : ℕ
  n = units_per_segment h

  abbrev units : Units
  units = units_in n h file

  pub read : AreRead h units
  read = blocks.read n h file

  count_is : segments_in n h file ≡ h.segments
  count_is = let l = leb-true h.segments (whole_segments n file) of.whole in omega arith

  -- the block of a key that waits
  module _ (e : Touched) (p : Packed) (there : In e b.cache) (has : e.1.block ≡ Some p) where
    abbrev body : Body
    body = record { unit = e.1.unit; exp = p.exp; bytes = p.block }

    pub for_key : IsBlockFor h e.0 p
    for_key = of.knows.packed e p there has

    entry_waits : In (new_entry e.1.hash e.1.unit p) (pending_entries b.cache)
    entry_waits = filter_map_in (λ (x : Touched). pending_entry x.1) b.cache e (new_entry e.1.hash e.1.unit p) there
        (ap (λ o. option_map (new_entry e.1.hash e.1.unit) o) has)

    pub its_run : IsRun (log2 n) (n * b.space.segments) (entry_run (new_entry e.1.hash e.1.unit p))
    its_run = of.order.parted.taken_runs (entry_run (new_entry e.1.hash e.1.unit p)) (entry_taken b of.order.order (new_entry e.1.hash e.1.unit p)
        (of.order.order.listed (new_entry e.1.hash e.1.unit p) entry_waits))

    its_free : IsFreeIn (view_of h file) e.1.unit p.exp
    its_free = ((follows blocks file b of).runs (new_entry e.1.hash e.1.unit p) entry_waits).free

    abbrev pub block : Block
    block = record { unit = e.1.unit; exp = p.exp; key = for_key.term; objects = for_key.objects }

    pub its_packed : IsPacked n h body block
    its_packed = known.packed h e.1.unit for_key.objects for_key.term p for_key.may_pack for_key.made for_key.of_key for_key.fits its_run.aligned

    pub inside : e.1.unit < units.count
    inside =
        let ends = its_run.ends in
        let count = count_is in
        let some = pow_pos p.exp in
        omega arith

    room : HasRoom n file body
    room =
        let payload : List ℕ = payload_of for_key.objects in
        let long : length p.block ≡ length (head_bytes p.exp (length payload)) + length payload =
        ap length for_key.made.bytes ∙ length-append (head_bytes p.exp (length payload)) payload in
        let head : length (head_bytes p.exp (length payload)) ≡ 8 = refl in
        let fits : head_size + length payload ≤ unit_size * 2 ^ p.exp =
        subst (λ x. head_size + length payload ≤ unit_size * 2 ^ x) (sym for_key.made.exp) (known.room (length payload)) in
        let most : 2 ^ p.exp ≤ 2 ^ 12 = pow_mono its_run.exp in
        let below = inside in
        let count = count_is in
        record {
          fits = omega arith;
          ends = known.aligned 12 e.1.unit p.exp most its_run.aligned;
          whole = known.whole n e.1.unit h.segments file (omega arith) (omega arith) (leb-true h.segments (whole_segments n file) of.whole);
        }

    replaces : (u : ℕ) (s : Block) → StandsOpen units.is_open units u s → s.key ≡ for_key.term → is_among (old_units b.cache) u ≡ true
    replaces u s stands same =
        let taken = stands_taken h units read u s of.knows.gates stands in
        let old = (of.knows.olds e there).every s taken (ap spelled same ∙ for_key.spelled_is) in
        subst (λ x. is_among (old_units b.cache) x ≡ true) (read u s stands.stands).unit
        (unit_among (olds_of b.cache) (entry_of s) (filter_map_in (λ (x : Touched). x.1.old) b.cache e (entry_of s) there old))

    is_new : IsNew n h (old_units b.cache) file body
    is_new = record {
      block = block;
      packed = its_packed;
      inside = inside;
      shut = let some = pow_pos p.exp in known.shut h units e.1.unit p.exp e.1.unit its_free (omega arith) (omega arith) inside;
      replaces = replaces;
    }

    meets_none : MeetsNone units body
    meets_none = known.meets_none h units body read (blocks.taken h units read of.knows.gates) its_free

  of_each : (P : Body → Type 0) → ((e : Touched) (p : Packed) → In e b.cache → e.1.block ≡ Some p → P (record { unit = e.1.unit; exp = p.exp; bytes = p.block }))
      → AllByRecursion P (bodies_of b.cache)
  of_each P each = all_of P (bodies_of b.cache) (λ x a. let r = body_from b.cache x a in subst P r.is (each r.touched r.packed r.there r.has))

  -- ---- pairs

  runs_apart : Pairs RunsApart (bodies_of b.cache)
  runs_apart = pairs_filter_map (λ (e : Touched). body_of e.1) RunsApart b.cache (pairs_also (Through (λ (e : Touched). pending_entry e.1) MeetsNot)
      (Through (λ (e : Touched). body_of e.1) RunsApart) b.cache (λ e f x y apart u v first second.
      let p = entry_by e.1 u e.1.block first in
      let q = entry_by f.1 v f.1.block second in
      both_runs u v p.0 q.0 p.2 p.3 q.2 q.3 (apart p.0 q.0 p.1 q.1))
      (filter_map_pairs (λ (e : Touched). pending_entry e.1) MeetsNot b.cache (follows blocks file b of).apart))

  -- bytes that are those of a block are those of no other one
  pub one_block : (x : Body) (s t : Block) → IsPacked n h x s → IsPacked n h x t → s ≡ t
  one_block x s t p q = let a = p.stands [] in let c = q.stands [] in cc (a, c)

  key_by : (e : Touched) (x : Body) (s : Block) (o : Option Packed) → In e b.cache → e.1.block ≡ o
      → option_map (λ (p : Packed). record { unit = e.1.unit; exp = p.exp; bytes = p.block }) o ≡ Some x → IsPacked n h x s → spelled s.key ≡ e.0
  key_by e x s None there has is packed = absurd (cc is)
  key_by e x s (Some p) there has is packed =
      let same : record { unit = e.1.unit; exp = p.exp; bytes = p.block } ≡ x = cc is in
      let own : IsPacked n h x (block e p there has) = subst (λ y. IsPacked n h y (block e p there has)) same (its_packed e p there has) in
      ap (λ (t : Block). spelled t.key) (one_block x s (block e p there has) packed own) ∙ (for_key e p there has).spelled_is

  key_of : (e : Touched) (x : Body) (s : Block) → In e b.cache → body_of e.1 ≡ Some x → IsPacked n h x s → spelled s.key ≡ e.0
  key_of e x s there is packed = key_by e x s e.1.block there refl is packed

  keys_differ : Pairs (OtherKeys n h) (bodies_of b.cache)
  keys_differ = pairs_filter_map (λ (e : Touched). body_of e.1) (OtherKeys n h) b.cache (pairs_also OtherWaits
      (Through (λ (e : Touched). body_of e.1) (OtherKeys n h)) b.cache (λ e f x y other u v first second s t p q same.
      other_key e.0 f.0 other (sym (key_of e u s x first p) ∙ ap spelled same ∙ key_of f v t y second q))
      (distinct_pairs b.cache of.order.distinct))

  -- ---- the blocks that go

  old_stands : (u : ℕ) → is_among (old_units b.cache) u ≡ true → (t : Block) × StandsOpen units.is_open units u t
  old_stands u a =
      let r = unit_from (olds_of b.cache) u a in
      let w = in_filter_map (λ (x : Touched). x.1.old) b.cache r.entry r.there in
      let has = (of.knows.olds w.0 w.1).some r.entry w.2 in
      let at : has.block.unit ≡ u = ap (λ (x : Entry). x.unit) has.entry ∙ r.is in
      (has.block, subst (λ x. StandsOpen units.is_open units x has.block) at (taken_stands h units read has.block has.taken))

  -- ---- all of it

  pub flushable : IsFlushable n h (bodies_of b.cache) (old_units b.cache) file
  flushable = record {
    page = page_there file h (blocks.located file b.place of.place).0;
    taken = blocks.taken h units read of.knows.gates;
    room = of_each (HasRoom n file) room;
    free = of_each (MeetsNone units) meets_none;
    new = of_each (IsNew n h (old_units b.cache) file) is_new;
    apart = body_pairs RunsApart (bodies_of b.cache) runs_apart;
    keys = body_pairs (OtherKeys n h) (bodies_of b.cache) keys_differ;
    counted = λ u a. (old_stands u a).1.inside;
    go = λ u a. (old_stands u a).1.opened;
  }
