-- The header of a file is changed for its repair, and all else shows what it showed.
use Rattle.std.proofs.Common.{◌≡◌, ◌≤◌, ◌*◌, ⊎_elim, ℕ, true, false, ◌&&◌, ◌||◌, List, [], length, Ok, refl, sym, ap, ◌∙◌, subst, arith}
use Rattle.std.specs.Prelude.{min, nat_le}
use Rattle.std.proofs.lemmas.Bool.{le-leb}
use Rattle.space_model.specs.Sizes.{segment_units}
use Rattle.host_model.specs.Disk.{range, in_doubt, DiffersIn}
use Rattle.host_model.specs.Torn.{alone, is_in-above}
use Rattle.file_model.specs.declared.head.Head.{Head}
use Rattle.file_model.specs.declared.head.Located.{Located}
use Rattle.file_model.specs.Layout.{page_size, segments_within, whole_segments, gate_at, is_open_at}
use Rattle.file_model.specs.Header.{segments_of, head_of, located}
use Rattle.file_model.specs.Block.{stands_at}
use Rattle.file_model.specs.View.{View, open_from, view_of}
use Rattle.file_model.specs.Taken.{taken_above, objects_in, table_of}
use Rattle.file_model.specs.Fit.{is_dirty, has_segments, has_no_rejects, index_named, lists_taken, is_sound}
use Rattle.block_disk.specs.Places.{the_page}
use Rattle.block_disk.specs.Copies.{HasEither}
use Rattle.book_model.specs.Stopped.{dirtied}
use Rattle.book_model.proofs.Headers.{page_there}
use Rattle.store_model.specs.Keeping.{Keeps}
use Rattle.table_core.specs.Repairing.{IsMarked}
use Rattle.table_core.specs.Below.{RepairLaws}

-- views that show the same have one table
pub same_table : (v w : View) → v.head.kind ≡ w.head.kind → v.head.keypos ≡ w.head.keypos → v.open_units ≡ w.open_units → table_of v ≡ table_of w
same_table v w kind keypos units = λ i. record { kind = kind i; keypos = keypos i; objects = objects_in (taken_above (units i) []) }

-- a file differs from itself nowhere
pub differs_not : (f : List ℕ) → page_size ≤ length f → DiffersIn the_page f f
differs_not f page = record { outside = λ k none. refl; no_shorter = omega arith; no_longer = omega (arith, page) }

-- a place behind the page is in no doubt
behind : (k : ℕ) → page_size ≤ k → in_doubt the_page k ≡ false
behind k l = alone (range 0 page_size) k (is_in-above (range 0 page_size) k l)

module _ (laws : RepairLaws) (place : Located) (f : List ℕ) (found : located f ≡ Ok place) where
  abbrev h : Head
  h = place.head

  pub read : head_of f ≡ Ok h
  read = (laws.located f place found).0

  pub page : page_size ≤ length f
  page = page_there f h read

  pub counted : place.whole ≡ segments_of h f
  counted = (laws.located f place found).2

  -- the segments that count, counted once more
  counted_again : min place.whole (whole_segments segment_units f) ≡ min h.segments (whole_segments segment_units f)
  counted_again = omega (arith, counted)

  -- a header that counts them sees the same open units
  units_again : (view_of (dirtied h place.whole) f).open_units ≡ (view_of h f).open_units
  units_again =
      ap (λ n. open_from (λ u. is_open_at f (gate_at segment_units u)) (λ u. stands_at segment_units h.kind h.keypos f u) (segment_units * n) 0)
      counted_again

  module _ (z : List ℕ) (outside : DiffersIn the_page f z) where
    pub same_length : length z ≡ length f
    same_length = omega (arith, page, outside.no_shorter, outside.no_longer)

    pub seen : (g : Head) → view_of g z ≡ view_of g f
    seen g = laws.seen segment_units g the_page f z (omega arith) outside
        (ap (λ n. min g.segments (segments_within segment_units n)) same_length) (λ k a b. behind k a)

    still_sound : is_sound h z ≡ is_sound h f
    still_sound = λ i. is_dirty h.state
        || (nat_le h.segments (segments_within segment_units (same_length i))
        && (has_no_rejects (seen h i) && lists_taken (index_named h.index) (seen h i)))

    sound_by_header : (g : Head) → head_of f ≡ Ok g → is_sound g f ≡ true → is_sound h f ≡ true
    sound_by_header g e s = let same : g ≡ h = cc (e, read) in subst (λ x. is_sound x f ≡ true) same s

    pub with_old_header : head_of z ≡ Ok h → Keeps h f z
    with_old_header e = record {
      head = h;
      read = e;
      kind = refl;
      keypos = refl;
      table = ap table_of (seen h);
      fit = laws.fit h z e;
      sound = λ s. record { head = h; read = e; sound = still_sound ∙ sound_by_header s.head s.read s.sound };
    }

    units_then : (view_of (dirtied h place.whole) z).open_units ≡ (view_of h f).open_units
    units_then = ap (λ (v : View). v.open_units) (seen (dirtied h place.whole)) ∙ units_again

    with_new_header : head_of z ≡ Ok (dirtied h place.whole) → Keeps h f z
    with_new_header e = record {
      head = dirtied h place.whole;
      read = e;
      kind = refl;
      keypos = refl;
      table = same_table (view_of (dirtied h place.whole) z) (view_of h f) refl refl units_then;
      fit = laws.fit (dirtied h place.whole) z e;
      sound = λ s. record {
        head = dirtied h place.whole;
        read = e;
        sound = laws.dirty_is_sound (dirtied h place.whole) z refl;
      };
    }

    pub marked : (q : Located) → located z ≡ Ok q → q.head ≡ dirtied h place.whole → IsMarked h q f z
    marked q is head = record {
      place_is = is;
      head = head ∙ ap (dirtied h) counted;
      whole = subst (λ g. has_segments g z ≡ true) (sym head)
          (le-leb place.whole (whole_segments segment_units z) (omega (arith, counted, outside.no_shorter)));
      open_units = ap (λ g. (view_of g z).open_units) head ∙ units_then;
      no_shorter = outside.no_shorter;
    }

  pub keeps : (z : List ℕ) → HasEither h (dirtied h place.whole) f z → Keeps h f z
  keeps z either = ⊎_elim (with_old_header z either.outside) (with_new_header z either.outside) either.header

  pub keeps_itself : Keeps h f f
  keeps_itself = with_old_header f (differs_not f page) read
