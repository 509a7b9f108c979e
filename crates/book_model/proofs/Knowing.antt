-- A book of a file stays one under a command.
use Rattle.std.proofs.Common.{◌≡◌, ⊎_elim, ℕ, List, Option, Some, None, Ok, refl, sym, ap, ◌∙◌, subst}
use Rattle.space_model.specs.Apart.{In}
use Rattle.file_model.specs.declared.block.Packed.{Packed}
use Rattle.file_model.specs.View.{View}
use Rattle.file_model.specs.Taken.{entries}
use Rattle.write_cache.specs.declared.pending.Pending.{Pending}
use Rattle.write_cache.specs.Waiting.{state_of}
use Rattle.book_model.specs.declared.change.Change.{Change}
use Rattle.book_model.specs.Book.{Book, IsWellFormed}
use Rattle.book_model.specs.Planning.{IsBlockFor, IsChange, OtherKey, OtherEntry, emptied, released, grown, moved, serve, planned}
use Rattle.book_model.specs.LedgerOf.{filed_entries}
use Rattle.book_model.specs.OfFile.{IsOld, Knows, AreChangesOf}
use Rattle.book_model.proofs.Members.{same_through, same_back}
use Rattle.book_model.proofs.Waits.{Touched, in_put, found_in}
use Rattle.book_model.proofs.Given.{with_block}
use Rattle.book_model.proofs.Filed.{serve_filed}
use Rattle.book_model.specs.Below.{PlaceLaws}
use Rattle.book_model.proofs.Served.{Moves, serve_ways, serve_formed, way_formed}
use Rattle.book_model.proofs.Commands.{other_state, carries, planned_kept, full_formed}

pub record CanOf (v : View) (b : Book) (c : Change) : Type 0 where
  pub change : IsChange b c
  pub old : state_of b.cache c.key ≡ None → IsOld v c.key c.old

pub record Both (v : View) (n : ℕ) (b : Book) : Type 0 where
  pub formed : IsWellFormed n b
  pub knows : Knows v b

module _ (laws : PlaceLaws) (v : View) (n : ℕ) (b : Book) (c : Change) (both : Both v n b) (can : CanOf v b c) where
  abbrev t : Pending
  t = emptied c (state_of b.cache c.key)

  own_old : (o : Option Pending) → state_of b.cache c.key ≡ o → IsOld v c.key (emptied c o).old
  own_old None has = can.old has
  own_old (Some s) has = both.knows.olds (c.key, s) (found_in b.cache c.key s has)

  released_olds : (e : Touched) → In e (released b c).cache → IsOld v e.0 e.1.old
  released_olds e a = ⊎_elim
      (λ own. subst (λ (x : Touched). IsOld v x.0 x.1.old) (sym own) (own_old (state_of b.cache c.key) refl))
      (λ other. both.knows.olds e other.0)
      (in_put b.cache c.key t e both.formed.distinct a)

  released_packed : (e : Touched) (p : Packed) → In e (released b c).cache → e.1.block ≡ Some p → IsBlockFor b.place.head e.0 p
  released_packed e p a is = ⊎_elim
      (λ own. let none : None ≡ Some p = ap (λ (x : Touched). x.1.block) (sym own) ∙ is in absurd (cc none))
      (λ other. both.knows.packed e p other.0 is)
      (in_put b.cache c.key t e both.formed.distinct a)

  module _ (new : Book) (is : serve n b c ≡ Ok new) where
    moved_olds : (m : Moves n b c new) (e : Touched) → In e (moved b c m.packed m.segments m.unit).cache → IsOld v e.0 e.1.old
    moved_olds m e a = ⊎_elim
        (λ own. subst (λ (x : Touched). IsOld v x.0 x.1.old) (sym own) (own_old (state_of b.cache c.key) refl))
        (λ other. released_olds e other.0)
        (in_put (released b c).cache c.key (with_block t m.packed m.unit) e (way_formed laws n b c both.formed can.change new m).distinct a)

    moved_packed : (m : Moves n b c new) (e : Touched) (p : Packed) → In e (moved b c m.packed m.segments m.unit).cache → e.1.block ≡ Some p
        → IsBlockFor b.place.head e.0 p
    moved_packed m e p a has = ⊎_elim
        (λ own.
        let some : Some m.packed ≡ Some p = ap (λ (x : Touched). x.1.block) (sym own) ∙ has in
        let key : c.key ≡ e.0 = ap (λ (x : Touched). x.0) (sym own) in
        subst (λ k. IsBlockFor b.place.head k p) key (can.change.next p (m.next ∙ some)))
        (λ other. released_packed e p other.0 has)
        (in_put (released b c).cache c.key (with_block t m.packed m.unit) e (way_formed laws n b c both.formed can.change new m).distinct a)

    pub serve_knows : Knows v new
    serve_knows = record {
      gates = both.knows.gates;
      lists = same_through (filed_entries new) (filed_entries b) (entries v)
          (same_back (filed_entries b) (filed_entries new) (serve_filed laws n b c new both.formed can.change is)) both.knows.lists;
      olds = ⊎_elim
          (λ e. subst (λ (x : Book). (y : Touched) → In y x.cache → IsOld v y.0 y.1.old) (sym e.is) released_olds)
          (λ m. subst (λ (x : Book). (y : Touched) → In y x.cache → IsOld v y.0 y.1.old) (sym m.is) (moved_olds m))
          (serve_ways laws n b c both.formed can.change new is);
      packed = ⊎_elim
          (λ e. subst (λ (x : Book). (y : Touched) (p : Packed) → In y x.cache → y.1.block ≡ Some p → IsBlockFor x.place.head y.0 p)
          (sym e.is) released_packed)
          (λ m. subst (λ (x : Book). (y : Touched) (p : Packed) → In y x.cache → y.1.block ≡ Some p → IsBlockFor x.place.head y.0 p)
          (sym m.is) (moved_packed m))
          (serve_ways laws n b c both.formed can.change new is);
    }

    pub serve_both : Both v n new
    serve_both = record { formed = serve_formed laws n b c both.formed can.change new is; knows = serve_knows }

    pub carries_of : (d : Change) → CanOf v b d → OtherKey c d → OtherEntry c d → CanOf v new d
    carries_of d other keys olds = record {
      change = carries laws n b c both.formed can.change new d other.change keys olds is;
      old = λ none. other.old (sym (other_state laws n b c both.formed can.change d.key new keys is) ∙ none);
    }

grown_knows : (v : View) (b : Book) (s : ℕ) → Knows v b → Knows v (grown b s)
grown_knows v b s k = record { gates = k.gates; lists = record { there = k.lists.there; back = k.lists.back }; olds = k.olds; packed = k.packed }

pub planned_both : (laws : PlaceLaws) (v : View) (n : ℕ) (cs : List Change) (b : Book) → Both v n b → AreChangesOf v b cs → Both v n (planned n b cs)
planned_both laws v n cs b both are = planned_kept n (λ x. Both v n x) (λ x c. CanOf v x c)
    (λ b new c kept can is. serve_both laws v n b c kept can new is)
    (λ b new c d kept can other keys olds is. carries_of laws v n b c kept can new is d other keys olds)
    cs b both (λ c a. record { change = are.are.each c a; old = are.olds c a }) are.are.keys are.are.entries
    (record { formed = full_formed n b both.formed; knows = grown_knows v b b.place.head.max_segments both.knows })
