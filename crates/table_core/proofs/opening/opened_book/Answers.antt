use Rattle.std.proofs.Common.{◌≡◌, ℕ, List, ap, subst}
use Rattle.space_model.specs.Sizes.{segment_units}
use Rattle.file_model.specs.declared.entry.Entry.{Entry}
use Rattle.buddy_space.specs.SpaceState.{SpaceState}
use Rattle.slot_table.specs.BySlot.{Slot}
use Rattle.book_model.specs.Below.{BlockLaws}
use Rattle.flush_engine.specs.declared.book.Book.{Book as KeptBook}
use Rattle.flush_engine.specs.Meaning.{book_of}
use Rattle.flush_engine.proofs.Parts.{parted_runs}
use Rattle.table_core.specs.Opening.{HasEntered}
use Rattle.table_core.proofs.Opened.{file_blocks, opened_order, is_opened}
use Rattle.table_core.proofs.opening.opened_book.Goals as goal

-- all blocks were entered, in the segments of the header
in_header : (n m : ℕ) (es : List Entry) (s : SpaceState) (slots : List Slot) → n ≡ m → HasEntered n es s slots → HasEntered m es s slots
in_header n m es s slots same so = subst (λ k. HasEntered k es s slots) same so

pub returns-clause-order : goal.returns-clause-order
returns-clause-order c =
    let b : KeptBook = record { place = c.args.place; space = c.enter_blocks.new.space; directory = c.enter_blocks.new.directory; cache = c.new-2.result } in
    opened_order b c.args.entries.now
    (in_header _ c.args.place.head.segments c.args.entries.now c.enter_blocks.new.space c.enter_blocks.new.directory
    (ap (λ (s : SpaceState). s.segments) c.in_ok-free_segments.ensures) c.in_ok-enter_blocks.ensures.entered)
    c.segments-segments.ensures.parted c.slots-slots.ensures.directory c.new-2.ensures c.requires.allowed

pub returns-clause-of_file : goal.returns-clause-of_file
returns-clause-of_file c = λ f found whole none are.
    let b : KeptBook = record { place = c.args.place; space = c.enter_blocks.new.space; directory = c.enter_blocks.new.directory; cache = c.new-2.result } in
    let laws : BlockLaws = record {
      read = c.a_block_stands_as_it_is_read.ensures.read;
      taken = c.open_gates_stand_at_taken_units_alone_where_nothing_is_rejected.ensures.none;
      only = c.open_gates_stand_at_taken_units_alone_where_nothing_is_rejected.ensures.only;
      located = c.a_header_is_located_where_it_is_read.ensures.head;
    } in
    let blocks = file_blocks laws (λ h unit bytes t is. c.a_block_stands_as_it_is_read.ensures.aligned segment_units h.kind h.keypos unit bytes t is)
    (λ u exp fits is. c.gates_and_units_do_not_meet.ensures.aligned 12 u exp fits is) f c.args.place.head none in
    c.an_opened_book_is_that_of_its_file.ensures f (book_of b)
    (is_opened b c.args.entries.now
    (in_header _ c.args.place.head.segments c.args.entries.now c.enter_blocks.new.space c.enter_blocks.new.directory
    (ap (λ (s : SpaceState). s.segments) c.in_ok-free_segments.ensures) c.in_ok-enter_blocks.ensures.entered)
    c.segments-segments.ensures.parted c.slots-slots.ensures.directory c.new-2.ensures f found are blocks)
    whole none (parted_runs c.enter_blocks.new.space c.segments-segments.ensures.parted)
