-- A file that was just made has no block, and its book has nothing.
use Rattle.std.proofs.Common.{◌≡◌, ◌*◌, ℕ, true, List, [], map, sym, ap, ◌∙◌, subst, arith}
use Rattle.std.specs.Prelude.{min}
use Rattle.std.proofs.lemmas.Bool.{le-leb}
use Rattle.space_model.specs.Sizes.{segment_units}
use Rattle.host_model.specs.Host.{Shown, IsCoherent, Reached, TearsIn}
use Rattle.host_model.specs.Leaves.{leaves_weaker, output_from_tears}
use Rattle.host_model.specs.Images.{HasImage, LeavesImages}
use Rattle.host_model.specs.Tearing.{Tearing}
use Rattle.file_model.specs.declared.entry.Entry.{Entry}
use Rattle.file_model.specs.declared.head.Head.{Head}
use Rattle.file_model.specs.declared.head.Located.{Located}
use Rattle.file_model.specs.Layout.{whole_segments, gate_at, is_open_at}
use Rattle.file_model.specs.Block.{stands_at}
use Rattle.file_model.specs.View.{OpenUnit, open_from, view_of}
use Rattle.file_model.specs.Taken.{taken_above, rejects_above, entry_of, entries, objects_in}
use Rattle.file_model.specs.Fit.{are_none, has_segments, has_no_rejects}
use Rattle.write_cache.specs.Waiting.{ledger_of as pending_of}
use Rattle.block_disk.specs.Places.{the_page}
use Rattle.run_model.specs.declared.options.OpenOptions.{OpenOptions}
use Rattle.run_model.specs.State.{new_head, file_of}
use Rattle.book_model.specs.Book.{Book}
use Rattle.book_model.specs.OfFile.{IsOf, standing_block}
use Rattle.table_core.specs.Answering.{IsOpenedTo, IsOpening}

module _ (h : Head) (f : List ℕ) (no_segment : h.segments ≡ 0) where
  counts_none : min h.segments (whole_segments segment_units f) ≡ 0
  counts_none = omega (arith, no_segment)

  no_units : (view_of h f).open_units ≡ []
  no_units =
      ap (λ n. open_from (λ u. is_open_at f (gate_at segment_units u)) (λ u. stands_at segment_units h.kind h.keypos f u) (segment_units * n) 0)
      counts_none

  pub all_there : has_segments h f ≡ true
  all_there = le-leb h.segments (whole_segments segment_units f) (omega (arith, no_segment))

  pub none_rejected : has_no_rejects (view_of h f) ≡ true
  none_rejected = ap (λ (us : List OpenUnit). are_none (rejects_above us [])) no_units

  pub no_entries : (es : List Entry) → es ≡ [] → es ≡ entries (view_of h f)
  no_entries es none = none ∙ sym (ap (λ (us : List OpenUnit). map entry_of (taken_above us [])) no_units)

module _ (options : OpenOptions) (q : Located) (g : List ℕ) (b : Book) (head : q.head ≡ new_head options) (place : b.place ≡ q)
    (segments : b.space.segments ≡ q.head.segments) (waits : b.cache ≡ []) where
  head_is : b.place.head ≡ new_head options
  head_is = ap (λ (p : Located). p.head) place ∙ head

  none_there : b.place.head.segments ≡ 0
  none_there = ap (λ (h : Head). h.segments) head_is

  no_segments : b.space.segments ≡ 0
  no_segments = segments ∙ ap (λ (h : Head). h.segments) head

  pub opened_made : IsOf g b → IsOpenedTo options b [] g
  unfolding file_of
  opened_made of = record {
    of_file = of;
    table = λ i. record {
      kind = (head_is i).kind;
      keypos = (head_is i).keypos;
      objects = objects_in (taken_above (no_units b.place.head g none_there i) []);
    };
    ledger = λ i. record {
      max = (head_is i).max_segments;
      filed = (head_is i).segments;
      segments = no_segments i;
      standing = map standing_block (taken_above (no_units b.place.head g none_there i) []);
      pending = pending_of (waits i);
    };
  }

-- while it is made nothing is said of its images but the output
pub images_making : (old new : Shown) (f : List ℕ) → IsCoherent old → f ≡ [] → Tearing the_page old new → LeavesImages old new (IsOpening f)
images_making old new f coherent empty tearing =
    leaves_weaker old new (Reached (TearsIn the_page) old.may_leave) (HasImage (IsOpening f) old) (λ c r. record {
      image = subst (λ x. IsOpening x c.image) (sym empty) tt;
      output = λ o e. output_from_tears the_page old o c coherent e r;
    }) tearing.leaves
