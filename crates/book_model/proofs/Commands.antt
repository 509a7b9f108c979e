-- The touched keys of a command, one after the other.
use Rattle.std.proofs.Common.{◌≡◌, inl, inr, ⊎_elim, ℕ, false, List, [], ◌∷◌, Some, Result, Ok, Err, refl, sym, ap, ◌∙◌, subst, arith}
use Rattle.std.specs.Prelude.{bytes_eq}
use Rattle.space_model.specs.Runs.{run}
use Rattle.space_model.specs.Apart.{In, Pairs, SameMembers}
use Rattle.file_model.specs.declared.entry.Entry.{Entry}
use Rattle.write_cache.specs.declared.pending.Pending.{Pending}
use Rattle.write_cache.specs.Waiting.{state_of, with_state}
use Rattle.book_model.specs.declared.change.Change.{Change}
use Rattle.book_model.specs.Book.{Book, entry_run, new_entry, pending_entry, IsWellFormed}
use Rattle.book_model.specs.Planning.{IsBlockFor, IsStanding, IsChange, OtherKey, OtherEntry, AreChanges, emptied, released, grown, moved, serve, after_served, serve_all, or_before, planned}
use Rattle.book_model.specs.LedgerOf.{filed_entries}
use Rattle.book_model.proofs.Members.{append_in, same_through}
use Rattle.book_model.proofs.Told.{other_told, from_put}
use Rattle.book_model.proofs.Runs.{not_apart, same_unit, entry_stays}
use Rattle.book_model.proofs.Released.{leaves, entry_taken}
use Rattle.book_model.proofs.Given.{with_block}
use Rattle.book_model.proofs.Filed.{pending_were, serve_filed}
use Rattle.book_model.specs.Below.{PlaceLaws}
use Rattle.book_model.proofs.Served.{Moves, same_book, serve_ways, serve_formed, grown_formed, way_formed}

-- ---- what is known of the changes of other keys is known behind it

module _ (laws : PlaceLaws) (n : ℕ) (b : Book) (c : Change) (formed : IsWellFormed n b) (can : IsChange b c) where
  abbrev t : Pending
  t = emptied c (state_of b.cache c.key)

  pub other_state : (key : List ℕ) (new : Book) → bytes_eq c.key key ≡ false → serve n b c ≡ Ok new → state_of new.cache key ≡ state_of b.cache key
  other_state key new other is = ⊎_elim
      (λ e. ap (λ (x : Book). state_of x.cache key) e.is ∙ laws.others b.cache c.key key t other)
      (λ m.
      ap (λ (x : Book). state_of x.cache key) m.is
      ∙ laws.others (with_state b.cache c.key t) c.key key (with_block t m.packed m.unit) other
      ∙ laws.others b.cache c.key key t other)
      (serve_ways laws n b c formed can new is)

  pub same_place : (new : Book) → serve n b c ≡ Ok new → new.place ≡ b.place
  same_place new is = ⊎_elim (λ e. ap (λ (x : Book). x.place) e.is) (λ m. ap (λ (x : Book). x.place) m.is) (serve_ways laws n b c formed can new is)

  released_standing : (e : Entry) → IsStanding b e → ((g : Entry) → c.old ≡ Some g → g ≡ e → ⊥) → IsStanding (released b c) e
  released_standing e standing apart = record {
    there = entry_stays c.old b.directory e standing.there (λ g is same.
        apart g is (sym (same_unit b.directory e g formed.order.entries standing.there (leaves b c g formed.order formed.distinct can is).there same)));
    not_pending = λ f a same. standing.not_pending f (pending_were n b c formed can f a) same;
  }

  moved_standing : (new : Book) (m : Moves n b c new) (e : Entry) → IsStanding (released b c) e → IsStanding (moved b c m.packed m.segments m.unit) e
  moved_standing new m e standing =
      let formed_way = way_formed laws n b c formed can new m in
      record {
        there = inr standing.there;
        not_pending = λ f a same. ⊎_elim
            (λ own.
            let is : new_entry c.hash m.unit m.packed ≡ f = cc own in
            let taken = entry_taken (grown (released b c) m.segments) formed_way.order e standing.there in
            not_apart (run m.unit m.packed.exp) (entry_run e) (ap (λ (x : Entry). x.unit) is ∙ same)
            (m.free (entry_run e) (append_in (released b c).space.taken (released b c).space.deferred (entry_run e) (inl taken))))
            (λ other. standing.not_pending f (other_told pending_entry (released b c).cache c.key f other) same)
            (from_put pending_entry (released b c).cache c.key (with_block t m.packed m.unit) f formed_way.distinct a);
      }

  pub carries : (new : Book) (d : Change) → IsChange b d → OtherKey c d → OtherEntry c d → serve n b c ≡ Ok new → IsChange new d
  carries new d change other other_entry is =
      let same = other_state d.key new other is in
      record {
        hashed = change.hashed;
        pending = λ s has. change.pending s (sym same ∙ has);
        standing = λ none e old.
            let was = change.standing (sym same ∙ none) e old in
            let kept = released_standing e was.0 (λ g has one. other_entry g e has old one) in (
              ⊎_elim
                  (λ x. subst (λ y. IsStanding y e) (sym x.is) kept)
                  (λ m. subst (λ y. IsStanding y e) (sym m.is) (moved_standing new m e kept))
                  (serve_ways laws n b c formed can new is),
              was.1,
            );
        next = λ p has. subst (λ place. IsBlockFor place.head d.key p) (sym (same_place new is)) (change.next p has);
      }

-- ---- what is kept by each change is kept by a command

module _ (n : ℕ) (Kept : Book → Type 0) (Can : Book → Change → Type 0)
    (step : (b new : Book) (c : Change) → Kept b → Can b c → serve n b c ≡ Ok new → Kept new)
    (on : (b new : Book) (c d : Change) → Kept b → Can b c → Can b d → OtherKey c d → OtherEntry c d → serve n b c ≡ Ok new → Can new d) where
  all_by : (c : Change) (cs : List Change) (b new : Book) (r : Result Book ℕ) → Kept b → Can b c → ((d : Change) → In d cs → Can b d)
      → ((d : Change) → In d cs → OtherKey c d) → ((d : Change) → In d cs → OtherEntry c d)
      → ((mid : Book) → Kept mid → ((d : Change) → In d cs → Can mid d) → serve_all n mid cs ≡ Ok new → Kept new)
      → serve n b c ≡ r → after_served r (λ next. serve_all n next cs) ≡ Ok new → Kept new
  all_by c cs b new (Err exp) kept can more keys olds go is e = absurd (cc e)
  all_by c cs b new (Ok mid) kept can more keys olds go is e =
      go mid (step b mid c kept can is) (λ d a. on b mid c d kept can (more d a) (keys d a) (olds d a) is) e

  pub all_kept : (cs : List Change) (b new : Book) → Kept b → ((c : Change) → In c cs → Can b c) → Pairs OtherKey cs → Pairs OtherEntry cs
      → serve_all n b cs ≡ Ok new → Kept new
  all_kept [] b new kept can keys olds e = subst Kept (same_book b new e) kept
  all_kept (c ∷ cs) b new kept can keys olds e = all_by c cs b new (serve n b c) kept (can c (inl refl)) (λ d a. can d (inr a)) keys.0 olds.0
      (λ mid kept_mid can_mid e_mid. all_kept cs mid new kept_mid can_mid keys.1 olds.1 e_mid) refl e

  planned_by : (cs : List Change) (b : Book) (r : Result Book ℕ) → Kept b → ((c : Change) → In c cs → Can b c) → Pairs OtherKey cs → Pairs OtherEntry cs
      → Kept (grown b b.place.head.max_segments) → serve_all n b cs ≡ r → Kept (or_before b r)
  planned_by cs b (Ok new) kept can keys olds full is = all_kept cs b new kept can keys olds is
  planned_by cs b (Err exp) kept can keys olds full is = full

  pub planned_kept : (cs : List Change) (b : Book) → Kept b → ((c : Change) → In c cs → Can b c) → Pairs OtherKey cs → Pairs OtherEntry cs
      → Kept (grown b b.place.head.max_segments) → Kept (planned n b cs)
  planned_kept cs b kept can keys olds full = planned_by cs b (serve_all n b cs) kept can keys olds full refl

pub full_formed : (n : ℕ) (b : Book) → IsWellFormed n b → IsWellFormed n (grown b b.place.head.max_segments)
full_formed n b formed = let most = formed.order.at_most in grown_formed n b b.place.head.max_segments formed most (omega arith)

pub planned_formed : (laws : PlaceLaws) (n : ℕ) (cs : List Change) (b : Book) → IsWellFormed n b → AreChanges b cs → IsWellFormed n (planned n b cs)
planned_formed laws n cs b formed are = planned_kept n (λ x. IsWellFormed n x) IsChange
    (λ b new c formed can is. serve_formed laws n b c formed can new is)
    (λ b new c d formed can change keys olds is. carries laws n b c formed can new d change keys olds is)
    cs b formed are.each are.keys are.entries (full_formed n b formed)

-- ---- the blocks that stand

pub planned_filed : (laws : PlaceLaws) (n : ℕ) (cs : List Change) (b : Book) → IsWellFormed n b → AreChanges b cs
    → SameMembers (filed_entries b) (filed_entries (planned n b cs))
planned_filed laws n cs b formed are = (planned_kept n
    (λ x. IsWellFormed n x × SameMembers (filed_entries b) (filed_entries x)) IsChange
    (λ x new c kept can is. (
      serve_formed laws n x c kept.0 can new is,
      same_through (filed_entries b) (filed_entries x) (filed_entries new) kept.1 (serve_filed laws n x c new kept.0 can is),
    ))
    (λ x new c d kept can change keys olds is. carries laws n x c kept.0 can new d change keys olds is)
    cs b (formed, record { there = λ e a. a; back = λ e a. a }) are.each are.keys are.entries
    (full_formed n b formed, record { there = λ e a. a; back = λ e a. a })).1

pub planned_place : (laws : PlaceLaws) (n : ℕ) (cs : List Change) (b : Book) → IsWellFormed n b → AreChanges b cs → (planned n b cs).place ≡ b.place
planned_place laws n cs b formed are = (planned_kept n (λ x. IsWellFormed n x × (x.place ≡ b.place)) IsChange
    (λ x new c kept can is. (serve_formed laws n x c kept.0 can new is, same_place laws n x c kept.0 can new is ∙ kept.1))
    (λ x new c d kept can change keys olds is. carries laws n x c kept.0 can new d change keys olds is)
    cs b (formed, refl) are.each are.keys are.entries (full_formed n b formed, refl)).1
