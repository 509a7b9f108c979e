-- A file that is prepared for a flush shows what it showed.
use Rattle.std.proofs.Common.{◌≡◌, ◌≤◌, inl, ⊎_elim, ℕ, true, false, ◌&&◌, ◌||◌, List, [], ◌∷◌, length, map, Ok}
use Rattle.std.proofs.Common.{refl, sym, ap, ◌∙◌, subst, arith}
use Rattle.std.proofs.lemmas.Bool.{leb-true, le-leb, or_parts}
use Rattle.host_model.specs.Disk.{Range, range, is_in, in_doubt, DiffersIn}
use Rattle.host_model.specs.Torn.{get_past, is_in-false, is_in-below, is_in-above, or_falses, alone}
use Rattle.table_model.specs.Table.{Table, objects_of}
use Rattle.file_model.specs.declared.head.Head.{Head}
use Rattle.file_model.specs.declared.head.Located.{Located}
use Rattle.file_model.specs.Layout.{page_size, segment_at, whole_segments}
use Rattle.file_model.specs.Header.{units_per_segment, head_of}
use Rattle.file_model.specs.View.{View, units_in, view_of}
use Rattle.file_model.specs.Taken.{taken_above, objects_in, table_of}
use Rattle.file_model.specs.Fit.{is_dirty, has_segments, has_no_rejects, index_named, lists_taken, is_sound}
use Rattle.book_model.specs.Book.{Book}
use Rattle.book_model.specs.OfFile.{IsOf, ShowsSame, AddsClosed, placed_at, standing_block, standing_of}
use Rattle.book_model.specs.Flushing.{table_with_head, HaveNew}
use Rattle.book_model.specs.Stopped.{dirtied, KeepsSegments, AreShut, IsDirtied, IsPreparing, IsPrepared}
use Rattle.book_model.specs.Stopped.{HaveOldOrNew, IsStopped}
use Rattle.book_model.specs.Below.{BlockLaws, StopLaws}
use Rattle.book_model.proofs.Headers.{allowed_of}
use Rattle.book_model.proofs.Closed.{shows_same}
use Rattle.book_model.proofs.OfFile.{block_of, same_of, same_taken}

-- ---- tables

-- views that show the same have one table
same_table : (v w : View) → ShowsSame v w → table_of w ≡ table_of v
same_table v w same = λ i. record {
  kind = same.kind i;
  keypos = same.keypos i;
  objects = objects_in (taken_above (same.open_units i) []);
}

-- in the same table each key has what it had
pub nothing_new : (b : Book) (old now : Table) → now ≡ old → HaveOldOrNew b old now
nothing_new b old now same = record {
  comes = λ e p there has f. inl (ap (λ t. objects_of t f.term) same);
  goes = λ e k there none own. inl (ap (λ t. objects_of t k) same);
  stays = λ k none. ap (λ t. objects_of t k) same;
}

-- ---- the segments of a header that are kept

module _ (laws : StopLaws) (h : Head) (old now : List ℕ) (whole : has_segments h old ≡ true)
    (keeps : KeepsSegments (units_per_segment h) h.segments old now) where
  abbrev n : ℕ
  n = units_per_segment h

  were : h.segments ≤ whole_segments n old
  were = leb-true h.segments (whole_segments n old) whole

  are : h.segments ≤ whole_segments n now
  are = let l = were in let longer = keeps.no_shorter in omega arith

  -- the page, and all behind the segments
  abbrev page : Range
  page = range 0 page_size

  abbrev rest : Range
  rest = range (segment_at n h.segments) (length now)

  differs : DiffersIn (page ∷ rest ∷ []) old now
  differs = record {
    outside = λ k free.
        let parts = or_parts (is_in page k) (in_doubt (rest ∷ []) k) free in
        ⊎_elim
        (λ before. absurd (omega arith))
        (λ behind. ⊎_elim
        (λ inside. keeps.bytes k (omega arith) inside)
        (λ past. let longer = keeps.no_shorter in get_past now old k (omega arith) (omega arith))
        (is_in-false rest k (or_parts (is_in rest k) false parts.1).0))
        (is_in-false page k parts.0);
    no_shorter = keeps.no_shorter;
    no_longer = let longer = keeps.no_shorter in omega arith;
  }

  -- what was seen is still seen
  kept : view_of h now ≡ view_of h old
  kept =
      let a = were in
      let b = are in
      laws.unseen n h (page ∷ rest ∷ []) old now (omega arith) differs (omega arith) (λ k l m.
      or_falses (is_in page k) (in_doubt (rest ∷ []) k) (is_in-above page k (omega arith))
      (alone rest k (is_in-below rest k (omega arith))))

  still_sound : is_sound h now ≡ is_sound h old
  still_sound =
      let there : has_segments h now ≡ true = le-leb h.segments (whole_segments n now) are in
      let segments : has_segments h now ≡ has_segments h old = there ∙ sym whole in
      let seen = kept in
      λ i. is_dirty h.state || (segments i && (has_no_rejects (seen i) && lists_taken (index_named h.index) (seen i)))

  still_shows : ShowsSame (view_of h old) (view_of h now)
  still_shows = record { kind = refl; keypos = refl; open_units = ap (λ v. v.open_units) kept }

  -- so it is with a header that counts more segments, if their gates are closed
  module _ (segments : ℕ) (least : h.segments ≤ segments)
      (shut : AreShut (units_per_segment h) h.segments segments now) where
    all_there : has_segments (dirtied h segments) now ≡ true
    all_there = let long = shut.whole in le-leb segments (whole_segments n now) (omega arith)

    shows_dirtied : ShowsSame (view_of h old) (view_of (dirtied h segments) now)
    shows_dirtied =
        let a = are in
        let c = leb-true segments (whole_segments n now) all_there in
        let adds : AddsClosed (units_in n h now) (units_in n (dirtied h segments) now) = record {
          count = omega arith;
          gates = λ u l. refl;
          behind = λ u l o. refl;
          shut = λ u l m. shut.gates u (omega arith) (omega arith);
        } in
        let more =
        shows_same h (dirtied h segments) (units_in n h now) (units_in n (dirtied h segments) now) refl refl adds in
        record { kind = refl; keypos = refl; open_units = more.open_units ∙ ap (λ v. v.open_units) kept }

-- ---- while the file is prepared

module _ (blocks : BlockLaws) (laws : StopLaws) (old now : List ℕ) (b : Book) (of : IsOf old b) where
  abbrev h : Head
  h = b.place.head

  read_old : head_of old ≡ Ok h
  read_old = (blocks.located old b.place of.place).0

  with_old_header : head_of now ≡ Ok h → KeepsSegments (units_per_segment h) h.segments old now → IsStopped b old now
  with_old_header read keeps = record {
    head = h;
    read = read;
    kind = refl;
    keypos = refl;
    fit = laws.fit h now read;
    sound = λ was. record {
      head = h;
      read = read;
      sound =
          let first = was.read in
          let second = read_old in
          let one : was.head ≡ h = cc (first, second) in
          still_sound laws h old now of.whole keeps ∙ ap (λ g. is_sound g old) (sym one) ∙ was.sound;
    };
    table = nothing_new b (table_with_head h old) (table_with_head h now)
        (same_table (view_of h old) (view_of h now) (still_shows laws h old now of.whole keeps));
  }

  with_new_header : IsDirtied h b.space.segments now → KeepsSegments (units_per_segment h) h.segments old now
      → IsStopped b old now
  with_new_header changed keeps = record {
    head = dirtied h b.space.segments;
    read = changed.header;
    kind = refl;
    keypos = refl;
    fit = laws.fit (dirtied h b.space.segments) now changed.header;
    sound = λ _. record {
      head = dirtied h b.space.segments;
      read = changed.header;
      sound = laws.dirty (dirtied h b.space.segments) now refl;
    };
    table = nothing_new b (table_with_head h old) (table_with_head (dirtied h b.space.segments) now)
        (same_table (view_of h old) (view_of (dirtied h b.space.segments) now)
        (shows_dirtied laws h old now of.whole keeps b.space.segments of.order.order.at_least changed.shut));
  }

  pub stops_preparing : IsPreparing h b.space.segments old now → IsStopped b old now
  stops_preparing p =
      ⊎_elim (λ read. with_old_header read p.keeps) (λ changed. with_new_header changed p.keeps) p.header

  -- ---- once it is prepared

  module _ (place : Located) (p : IsPrepared h b.space.segments place old now) where
    shows_prepared : ShowsSame (view_of h old) (view_of place.head now)
    shows_prepared = subst (λ g. ShowsSame (view_of h old) (view_of g now)) (sym p.head)
        (shows_dirtied laws h old now of.whole p.keeps b.space.segments of.order.order.at_least p.shut)

    pub prepared_table : table_with_head place.head now ≡ table_with_head h old
    prepared_table = same_table (view_of h old) (view_of place.head now) shows_prepared

    pub prepared_standing : standing_of (view_of place.head now) ≡ standing_of (view_of h old)
    prepared_standing =
        ap (map standing_block) (same_taken (view_of h old) (view_of place.head now) shows_prepared)

    prepared_read : head_of now ≡ Ok place.head
    prepared_read = (blocks.located now place p.place_is).0

    counts : place.head.segments ≡ b.space.segments
    counts = ap (λ (g : Head). g.segments) p.head

    pub prepared_of : IsOf now (placed_at b place)
    prepared_of = same_of old now b place of (record {
      place_is = p.place_is;
      whole = subst (λ g. has_segments g now ≡ true) (sym p.head)
          (all_there laws h old now of.whole p.keeps b.space.segments of.order.order.at_least p.shut);
      allowed = allowed_of now place.head prepared_read;
      at_least = let same = counts in omega arith;
      at_most = subst (λ (g : Head). b.space.segments ≤ g.max_segments) (sym p.head) of.order.order.at_most;
      same = shows_prepared;
    })

    kind_is : place.head.kind ≡ h.kind
    kind_is = ap (λ (g : Head). g.kind) p.head

    keypos_is : place.head.keypos ≡ h.keypos
    keypos_is = ap (λ (g : Head). g.keypos) p.head

    -- what a stop may leave then it may leave of the file before
    pub stops_behind : (image : List ℕ) → IsStopped (placed_at b place) now image → IsStopped b old image
    stops_behind image s = record {
      head = s.head;
      read = s.read;
      kind = s.kind ∙ kind_is;
      keypos = s.keypos ∙ keypos_is;
      fit = s.fit;
      sound = λ _. s.sound (record {
        head = place.head;
        read = prepared_read;
        sound = laws.dirty place.head now (ap (λ (g : Head). g.state) p.head);
      });
      table = subst (λ t. HaveOldOrNew b t (table_with_head s.head image)) prepared_table (record {
        comes = λ e q there has f. s.table.comes e q there has (block_of h place.head e.0 q kind_is keypos_is f);
        goes = s.table.goes;
        stays = s.table.stays;
      });
    }

    pub new_behind : (new : Table) → HaveNew (placed_at b place) (table_with_head place.head now) new
        → HaveNew b (table_with_head h old) new
    new_behind new have = subst (λ t. HaveNew b t new) prepared_table (record {
      comes = λ e q there has f. have.comes e q there has (block_of h place.head e.0 q kind_is keypos_is f);
      goes = have.goes;
      stays = have.stays;
    })
