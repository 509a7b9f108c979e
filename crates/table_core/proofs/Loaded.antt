-- A file that is read is ready to be opened, once it was repaired where it needs that.
use Rattle.std.proofs.Common.{◌≡◌, ℕ, Bool, true, false, ◌&&◌, List, map, Ok, refl, sym, ap, ◌∙◌, subst, arith}
use Rattle.std.specs.Prelude.{not}
use Rattle.std.proofs.lemmas.Bool.{and_parts, or_parts, leb-true}
use Rattle.space_model.specs.Sizes.{segment_units}
use Rattle.file_model.specs.declared.entry.Entry.{Entry}
use Rattle.file_model.specs.declared.head.Head.{Head}
use Rattle.file_model.specs.declared.head.Located.{Located}
use Rattle.file_model.specs.Layout.{whole_segments}
use Rattle.file_model.specs.Header.{located}
use Rattle.file_model.specs.View.{View, view_of}
use Rattle.file_model.specs.Taken.{entry_of, entries}
use Rattle.file_model.specs.Fit.{is_dirty, has_segments, has_no_rejects, Index, Absent, BadChain, index_of_file, can_be_read}
use Rattle.repair_scan.specs.declared.found.Found.{Found}
use Rattle.book_model.specs.Book.{Book}
use Rattle.book_model.specs.OfFile.{IsOf}
use Rattle.table_core.specs.Answering.{IsRead}
use Rattle.table_core.specs.Repairing.{IsRepaired, IsReady, IsLoaded}

pub ready_repaired : (h : Head) (q : Located) (f g : List ℕ) → IsRepaired h q f g → IsReady h q f g
ready_repaired h q f g r = record {
  place_is = r.place_is;
  kind = ap (λ (x : Head). x.kind) r.head;
  keypos = ap (λ (x : Head). x.keypos) r.head;
  most = ap (λ (x : Head). x.max_segments) r.head;
  counted = ap (λ (x : Head). x.segments) r.head;
  whole = r.whole;
  blocks = r.blocks;
  none = r.none;
}

-- ---- a file that does not need it

unnot : (b : Bool) → not b ≡ false → b ≡ true
unnot true e = refl
unnot false e = absurd (cc e)

none_rejected : (i : Index) (v : View) → can_be_read i v ≡ true → has_no_rejects v ≡ true
none_rejected Absent v e = e
none_rejected BadChain v e = absurd (cc e)

pub ready_as_it_is : (place : Located) (found : Found) (needs : Bool) (f : List ℕ) → IsRead place found needs f → needs ≡ false
    → IsReady place.head place f f
ready_as_it_is place found needs f read unneeded =
    let h = place.head in
    let parts = or_parts (is_dirty h.state) (not (has_segments h f && can_be_read (index_of_file h f) (view_of h f))) (sym read.judged ∙ unneeded) in
    let order = and_parts (has_segments h f) (can_be_read (index_of_file h f) (view_of h f)) (unnot _ parts.1) in
    let there = leb-true h.segments (whole_segments segment_units f) order.0 in
    record {
      place_is = read.place_is;
      kind = refl;
      keypos = refl;
      most = refl;
      counted = omega (arith, there);
      whole = order.0;
      blocks = refl;
      none = none_rejected (index_of_file h f) (view_of h f) order.1;
    }

-- ---- its book

pub loaded : (h : Head) (q : Located) (f g : List ℕ) (b : Book) (es : List Entry) → IsReady h q f g → b.place ≡ q
    → b.space.segments ≡ q.head.segments → es ≡ entries (view_of h f)
    → ((image : List ℕ) → located image ≡ Ok q → has_segments q.head image ≡ true → has_no_rejects (view_of q.head image) ≡ true
    → es ≡ entries (view_of q.head image) → IsOf image b)
    → IsLoaded h b f g
loaded h q f g b es ready place segments are of = record {
  of_file = of g ready.place_is ready.whole ready.none (are ∙ sym (ap (map entry_of) ready.blocks));
  ready = subst (λ p. IsReady h p f g) (sym place) ready;
  segments = segments ∙ sym (ap (λ (p : Located). p.head.segments) place);
}
