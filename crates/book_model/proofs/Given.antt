-- A key that waits without a block gets one.
use Rattle.std.proofs.Common.{◌≡◌, inl, inr, ⊎_elim, ℕ, ◌*◌, List, Some, None, refl, sym, ap, ◌∙◌, subst}
use Rattle.term_model.specs.Hash.{hash_of}
use Rattle.space_model.specs.Least.{log2}
use Rattle.space_model.specs.Runs.{Run, run}
use Rattle.space_model.specs.Apart.{In, SameMembers, Apart, IsRun}
use Rattle.file_model.specs.declared.block.Packed.{Packed}
use Rattle.file_model.specs.declared.entry.Entry.{Entry}
use Rattle.write_cache.specs.declared.pending.Pending.{Pending}
use Rattle.book_model.specs.Book.{held, IsParted, Book, entry_run, entry_runs, new_entry, pending_entry, olds_of, OtherUnit, IsInOrder, IsWellFormed}
use Rattle.book_model.specs.Planning.{given}
use Rattle.book_model.proofs.Members.{append_in, same_map, same_more, same_through}
use Rattle.book_model.proofs.Waits.{Touched, state_in, in_put}
use Rattle.book_model.proofs.Told.{OfOther, told_same, told_pairs, from_put, other_told}
use Rattle.book_model.proofs.Runs.{not_apart}
use Rattle.book_model.proofs.Released.{StaysDistinct, entry_taken}

pub record CanGive (n : ℕ) (b : Book) (key : List ℕ) (s : Pending) (p : Packed) (unit : ℕ) : Type 0 where
  pub waits : In (key, s) b.cache
  pub empty : s.block ≡ None
  pub hash : s.hash ≡ hash_of key
  pub is_run : IsRun (log2 n) (n * b.space.segments) (run unit p.exp)
  pub free : (r : Run) → In r (held b.space) → Apart (run unit p.exp) r

abbrev pub with_block : Pending → Packed → ℕ → Pending
with_block s p unit = record s { block = Some p; unit = unit }

module _ (n : ℕ) (b : Book) (key : List ℕ) (s : Pending) (p : Packed) (unit : ℕ) (formed : IsWellFormed n b) (can : CanGive n b key s p unit) where
  abbrev t : Pending
  t = with_block s p unit

  pub free_taken : (r : Run) → In r b.space.taken → Apart (run unit p.exp) r
  free_taken r a = can.free r (append_in b.space.taken b.space.deferred r (inl a))

  other_unit : (f : Entry) → OfOther pending_entry b.cache key f → unit ≡ f.unit → ⊥
  other_unit f other same = not_apart (run unit p.exp) (entry_run f) same
      (free_taken (entry_run f) (entry_taken b formed.order f (formed.order.listed f (other_told pending_entry b.cache key f other))))

  pub given_olds : SameMembers (olds_of b.cache) (olds_of (given b key s p unit).cache)
  given_olds = told_same (λ (x : Pending). x.old) b.cache key s t formed.distinct (state_in b.cache (key, s) formed.distinct can.waits) refl can.waits

  order_given : IsInOrder (given b key s p unit)
  order_given =
      let order = formed.order in
      record {
        header = order.header;
        at_least = order.at_least;
        at_most = order.at_most;
        entries = (λ f a. free_taken (entry_run f) (entry_taken b order f a), order.entries);
        taken = same_more (run unit p.exp) b.space.taken (entry_runs b.directory) order.taken;
        units = told_pairs pending_entry OtherUnit b.cache key t formed.distinct order.units (λ x y other own.
            let is : new_entry s.hash unit p ≡ y = cc own in
            let at : unit ≡ y.unit = ap (λ (e : Entry). e.unit) is in
            (λ same. other_unit x other (at ∙ sym same), λ same. other_unit x other (at ∙ same)));
        listed = λ f a. ⊎_elim
            (λ own. let is : new_entry s.hash unit p ≡ f = cc own in inl is)
            (λ other. inr (order.listed f (other_told pending_entry b.cache key f other)))
            (from_put pending_entry b.cache key t f formed.distinct a);
        deferred = same_through b.space.deferred (entry_runs (olds_of b.cache)) (entry_runs (olds_of (given b key s p unit).cache)) order.deferred
            (same_map entry_run (olds_of b.cache) (olds_of (given b key s p unit).cache) given_olds);
        hashed = λ e a. ⊎_elim
            (λ own. subst (λ (x : Touched). x.1.hash ≡ hash_of x.0) (sym own) can.hash)
            (λ other. order.hashed e other.0)
            (in_put b.cache key t e formed.distinct a);
      }

  parted_given : IsParted n (given b key s p unit).space
  parted_given = record {
    taken_runs = λ r a. ⊎_elim
        (λ own. subst (λ z. IsRun (log2 n) (n * b.space.segments) z) own can.is_run) (λ later. formed.parted.taken_runs r later) a;
    deferred_runs = formed.parted.deferred_runs;
    taken_apart = (λ r a. free_taken r a, formed.parted.taken_apart);
    deferred_apart = formed.parted.deferred_apart;
    beside = λ r q a d. ⊎_elim
        (λ own. subst (λ z. Apart z q) own (can.free q (append_in b.space.taken b.space.deferred q (inr d))))
        (λ later. formed.parted.beside r q later d)
        a;
  }

  pub given_formed : StaysDistinct → IsWellFormed n (given b key s p unit)
  given_formed stays = record { order = order_given; parted = parted_given; distinct = stays b.cache key t formed.distinct }
