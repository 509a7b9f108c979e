-- The book when a flush is done, and where there is nothing to flush.
use Rattle.std.proofs.Common.{◌≡◌, inl, ℕ, ◌%◌, ◌^◌, ◌==◌, List, [], ◌∷◌, Option, refl, sym, subst}
use Rattle.std.proofs.lemmas.Bool.{and_parts}
use Rattle.host_model.specs.Disk.{Changes}
use Rattle.space_model.specs.Runs.{Run, is_free}
use Rattle.space_model.specs.Apart.{In}
use Rattle.file_model.specs.declared.head.Located.{Located}
use Rattle.slot_table.specs.BySlot.{by_slot, entries_in}
use Rattle.buddy_space.specs.SpaceState.{units, held, IsParted, settling}
use Rattle.buddy_space.proofs.States.{settled_is_free}
use Rattle.book_model.specs.Book.{Book, entry_runs, olds_of, IsInOrder}
use Rattle.book_model.specs.OfFile.{IsOf, placed_at}
use Rattle.book_model.specs.Flushing.{settled}
use Rattle.flush_engine.specs.declared.book.Book.{Book as KeptBook}
use Rattle.flush_engine.specs.Meaning.{runs_of, book_of}
use Rattle.flush_engine.specs.Below.{StopLaws}
use Rattle.flush_engine.specs.Flushed.{FlushesLedger, HasFreed}

-- ---- nothing waits

pub none_deferred : (b : Book) (r : Run) → IsInOrder b → b.cache ≡ [] → In r b.space.deferred → ⊥
none_deferred b r order none a = subst (λ w. In r (entry_runs (olds_of w)) → ⊥) (sym none) (λ x. x) (order.deferred.there r a)

no_runs : (runs : List Run) → ((r : Run) → In r runs → ⊥) → runs ≡ []
no_runs [] none = refl
no_runs (r ∷ rs) none = absurd (none r (inl refl))

pub settles_nothing : (b : KeptBook) → IsInOrder (book_of b) → b.cache ≡ [] → b.space ≡ settling b.space
settles_nothing b order none =
    let empty : b.space.deferred ≡ [] = no_runs b.space.deferred (λ r a. none_deferred (book_of b) r order none a) in
    λ i. record b.space { deferred = empty i }

pub ledger_as_it_is : (laws : StopLaws) (b : Book) (file : Option (List ℕ)) → b.cache ≡ [] → b.space.segments ≡ b.place.head.segments
    → Changes (FlushesLedger b b) file file
ledger_as_it_is laws b file none grown = record {
  told = λ x e. (x, e, λ l has. laws.ledger_as_it_is x b l none grown has);
  untold = λ e. e;
}

-- ---- all is written

-- the runs that were deferred have no open gate in the file, and meet no block of it
pub deferred_are_shut : (laws : StopLaws) (old : KeptBook) (place : Located) (file : List ℕ) → IsParted old.space
    → IsOf file (settled (placed_at (book_of old) place)) → HasFreed old.space place file
deferred_are_shut laws old place file parted of r a =
    (laws.follows file (settled (placed_at (book_of old) place)) of).free r
    (and_parts (r.unit % 2 ^ r.exp == 0) (is_free (units (settling old.space)) (held (settling old.space)) r)
    (settled_is_free old.space r parted a)).1

-- the book then has the flushed ledger
pub ledger_flushed : (old new : KeptBook) (x z : List ℕ) → new.space ≡ settling old.space → new.directory ≡ old.directory → new.cache ≡ []
    → FlushesLedger (book_of old) (settled (placed_at (book_of old) new.place)) x z → FlushesLedger (book_of old) (book_of new) x z
ledger_flushed old new x z space directory cache flushed =
    let same : settled (placed_at (book_of old) new.place) ≡ book_of new = λ i. record {
      place = new.place;
      space = runs_of (sym space i);
      directory = entries_in (by_slot (sym directory i));
      cache = sym cache i;
    } in
    subst (λ b. FlushesLedger (book_of old) b x z) same flushed
