-- While blocks are written each key has its old or its new objects.
use Rattle.std.proofs.Common.{◌≡◌, inl, inr, ⊎_elim, ℕ, List, refl, ◌∙◌, arith}
use Rattle.table_model.specs.Table.{Table}
use Rattle.file_model.specs.declared.head.Head.{Head}
use Rattle.file_model.specs.declared.head.FileState.TheVariants.{Dirty}
use Rattle.file_model.specs.Header.{units_per_segment, located}
use Rattle.file_model.specs.Gates.{OldOrNew}
use Rattle.file_model.specs.Flush.{IsFlushable, IsBetween}
use Rattle.book_model.specs.Book.{Book}
use Rattle.book_model.specs.OfFile.{IsOf}
use Rattle.book_model.specs.Flushing.{bodies_of, old_units, flushed_file, table_with_head, HaveNew}
use Rattle.book_model.specs.Stopped.{IsWriting, HaveOldOrNew, IsStopped}
use Rattle.book_model.specs.Below.{BlockLaws, FlushLaws, WriteLaws, StopLaws}
use Rattle.book_model.proofs.Flushable.{flushable}
use Rattle.book_model.proofs.NewObjects.{have_new}
use Rattle.book_model.proofs.Prepared.{nothing_new}

-- with new objects in one of two tables each key has its old or its new ones
old_or_new : (b : Book) (old new now : Table) → HaveNew b old new → OldOrNew old new now → HaveOldOrNew b old now
old_or_new b old new now have between = record {
  comes = λ e p there has f.
      ⊎_elim (λ same. inl same) (λ changed. inr (changed ∙ have.comes e p there has f)) (between.objects f.term);
  goes = λ e k there none own.
      ⊎_elim (λ same. inl same) (λ changed. inr (changed ∙ have.goes e k there none own)) (between.objects k);
  stays = λ k none. ⊎_elim (λ same. same) (λ changed. changed ∙ have.stays k none) (between.objects k);
}

-- all new objects are some of these
all_new : (b : Book) (old new : Table) → HaveNew b old new → HaveOldOrNew b old new
all_new b old new have = record {
  comes = λ e p there has f. inr (have.comes e p there has f);
  goes = λ e k there none own. inr (have.goes e k there none own);
  stays = have.stays;
}

module _ (blocks : BlockLaws) (laws : StopLaws) (old : List ℕ) (b : Book) (of : IsOf old b) where
  abbrev h : Head
  h = b.place.head

  abbrev n : ℕ
  n = units_per_segment h

  pub stops_as_it_is : IsStopped b old old
  stops_as_it_is =
      let read = (blocks.located old b.place of.place).0 in
      record {
        head = h;
        read = read;
        kind = refl;
        keypos = refl;
        fit = laws.fit h old read;
        sound = λ was. was;
        table = nothing_new b (table_with_head h old) (table_with_head h old) refl;
      }

  -- a dirty image with the same header
  with_header : (now : List ℕ) → h.state ≡ Dirty → located now ≡ located old
      → HaveOldOrNew b (table_with_head h old) (table_with_head h now) → IsStopped b old now
  with_header now dirty same table =
      let read = (blocks.located now b.place (same ∙ of.place)).0 in
      record {
        head = h;
        read = read;
        kind = refl;
        keypos = refl;
        fit = laws.fit h now read;
        sound = λ _. record { head = h; read = read; sound = laws.dirty h now dirty };
        table = table;
      }

  module _ (known : FlushLaws) (writes : WriteLaws) (grown : h.segments ≡ b.space.segments)
      (dirty : h.state ≡ Dirty) where
    can : IsFlushable n h (bodies_of b.cache) (old_units b.cache) old
    can = flushable blocks known old b of grown

    new : HaveNew b (table_with_head h old) (table_with_head h (flushed_file b old))
    new = have_new blocks known writes old b of grown

    between : (now : List ℕ) → IsWriting n (bodies_of b.cache) (old_units b.cache) old now
        → IsBetween n h (bodies_of b.cache) (old_units b.cache) old now
    between now stopped = ⊎_elim
        (λ d. laws.bodies n h (bodies_of b.cache) (old_units b.cache) old (omega arith) can now d)
        (λ later. ⊎_elim
        (λ d. laws.opening n h (bodies_of b.cache) (old_units b.cache) old (omega arith) can now d)
        (λ d. laws.closing n h (bodies_of b.cache) (old_units b.cache) old (omega arith) can now d)
        later)
        stopped

    pub stops_writing : (now : List ℕ) → IsWriting n (bodies_of b.cache) (old_units b.cache) old now
        → IsStopped b old now
    stops_writing now stopped =
        let is = between now stopped in
        with_header now dirty is.header
        (old_or_new b (table_with_head h old) (table_with_head h (flushed_file b old)) (table_with_head h now) new
        is.table)

    pub stops_flushed : IsStopped b old (flushed_file b old)
    stops_flushed = with_header (flushed_file b old) dirty
        (writes.flushed n h (bodies_of b.cache) (old_units b.cache) old (omega arith) can).header
        (all_new b (table_with_head h old) (table_with_head h (flushed_file b old)) new)
