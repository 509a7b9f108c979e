-- The ledger of a file under a command, and when all is written.
use Rattle.std.proofs.Common.{◌≡◌, ⊎_elim, inl, ℕ, Bool, List, [], map, filter, refl, sym, ap, ◌∙◌, subst}
use Rattle.std.specs.Prelude.{not, filter_map}
use Rattle.space_model.specs.Apart.{SameMembers}
use Rattle.space_model.specs.Ledger.{Standing, Pending as LedgerPending, Ledger, is_pending, standing_of as standing_of_pending, flushed_standing, flush, serve_all as ledger_serve_all, after_command}
use Rattle.file_model.specs.declared.head.Head.{Head}
use Rattle.file_model.specs.declared.head.Located.{Located}
use Rattle.file_model.specs.Header.{units_per_segment}
use Rattle.file_model.specs.View.{View, view_of}
use Rattle.write_cache.specs.Waiting.{ledger_of as pending_of}
use Rattle.book_model.specs.declared.change.Change.{Change}
use Rattle.book_model.specs.Book.{Book, entry_runs, IsAlike}
use Rattle.book_model.specs.Planning.{serve_all, planned}
use Rattle.book_model.specs.LedgerOf.{filed_entries, AreStanding, ledger_of, touches_of, ledger_result}
use Rattle.book_model.specs.OfFile.{IsOf, AreChangesOf, standing_of, placed_at}
use Rattle.book_model.specs.LedgerOfFile.{HasLedger, all_filed}
use Rattle.book_model.specs.Flushing.{settled, flushed_file}
use Rattle.book_model.specs.Stopped.{IsPrepared}
use Rattle.book_model.specs.Below.{PlaceLaws, LedgerLaws, BlockLaws, FlushLaws, WriteLaws, StopLaws}
use Rattle.book_model.proofs.Members.{append_in, in_append, in_filter, filter_in, same_self, same_through, same_append, same_map}
use Rattle.book_model.proofs.Commands.{planned_place}
use Rattle.book_model.proofs.LedgerMoves.{all_ledger, planned_ledger}
use Rattle.book_model.proofs.Alike.{alike_ledger}
use Rattle.book_model.proofs.OfFile.{stands_of}
use Rattle.book_model.proofs.Prepared.{prepared_standing}
use Rattle.book_model.proofs.FlushedLedger.{stands_now, rest_same}

-- ---- of each file

pub file_ledger : (file : List ℕ) (b : Book) → HasLedger file b (ledger_of (standing_of (view_of b.place.head file)) b)
file_ledger file b = record { of_book = refl; standing = same_self (standing_of (view_of b.place.head file)) }

-- the keys that stand in the ledger are those of the book
pub ledger_stands : (file : List ℕ) (b : Book) (l : Ledger) → IsOf file b → HasLedger file b l → AreStanding l.standing b
ledger_stands file b l of has =
    let v : View = view_of b.place.head file in
    same_through (map (λ (s : Standing). s.run) l.standing) (map (λ (s : Standing). s.run) (standing_of v)) (entry_runs (filed_entries b))
    (same_map (λ (s : Standing). s.run) l.standing (standing_of v) has.standing) (stands_of file b of)

-- ---- of an alike book

pub alike_has : (file : List ℕ) (a b : Book) (l : Ledger) → IsAlike a b → HasLedger file a l → HasLedger file b l
alike_has file a b l alike has = record {
  of_book = has.of_book ∙ sym (alike_ledger a b alike l.standing);
  standing = subst (λ (p : Located). SameMembers l.standing (standing_of (view_of p.head file))) (sym alike.place) has.standing;
}

-- ---- under a command

module _ (laws : PlaceLaws) (known : LedgerLaws) (file : List ℕ) (cs : List Change) (b : Book) (l : Ledger) (of : IsOf file b)
    (are : AreChangesOf (view_of b.place.head file) b cs) (has : HasLedger file b l) where
  abbrev n : ℕ
  n = units_per_segment b.place.head

  abbrev after : Ledger
  after = after_command n l (touches_of cs)

  stands : AreStanding l.standing b
  stands = ledger_stands file b l of has

  pub command_answer : ledger_result l.standing (serve_all n b cs) ≡ ledger_serve_all n l (touches_of cs)
  command_answer =
      all_ledger laws known n l.standing cs b (record { formed = of.order; stands = stands }) are.are.each are.are.keys are.are.entries
      ∙ ap (λ x. ledger_serve_all n x (touches_of cs)) (sym has.of_book)

  moved : ledger_of l.standing (planned n b cs) ≡ after
  moved =
      planned_ledger laws known n l.standing cs b (record { formed = of.order; stands = stands }) are.are
      ∙ ap (λ x. after_command n x (touches_of cs)) (sym has.of_book)

  -- what stands is as before
  kept : l.standing ≡ after.standing
  kept = ap (λ (x : Ledger). x.standing) moved

  pub command_has : HasLedger file (planned n b cs) after
  command_has = record {
    of_book = sym moved ∙ ap (λ s. ledger_of s (planned n b cs)) kept;
    standing = subst (λ s. SameMembers s (standing_of (view_of (planned n b cs).place.head file))) kept
        (subst (λ (p : Located). SameMembers l.standing (standing_of (view_of p.head file)))
        (sym (planned_place laws n cs b of.order are.are)) has.standing);
  }

-- ---- of a prepared file

pub prepared_has : (blocks : BlockLaws) (laws : StopLaws) (old now : List ℕ) (b : Book) (place : Located) (l : Ledger) → IsOf old b
    → IsPrepared b.place.head b.space.segments place old now → HasLedger old b l → HasLedger now (placed_at b place) (all_filed l)
prepared_has blocks laws old now b place l of p has = record {
  of_book = λ i. record {
    max = (ap (λ (x : Ledger). x.max) has.of_book ∙ sym (ap (λ (h : Head). h.max_segments) p.head)) i;
    filed = (ap (λ (x : Ledger). x.segments) has.of_book ∙ sym (ap (λ (h : Head). h.segments) p.head)) i;
    segments = (has.of_book i).segments;
    standing = l.standing;
    pending = (has.of_book i).pending;
  };
  standing = subst (λ s. SameMembers l.standing s) (sym (prepared_standing blocks laws old now b of place p)) has.standing;
}

-- ---- when all is written

kept_same : (test : Standing → Bool) (xs ys : List Standing) → SameMembers xs ys → SameMembers (filter test xs) (filter test ys)
kept_same test xs ys same = record {
  there = λ x a. let f = in_filter test xs x a in filter_in test ys x (same.there x f.0) f.1;
  back = λ x a. let f = in_filter test ys x a in filter_in test xs x (same.back x f.0) f.1;
}

flushed_same : (xs ys : List Standing) (pending : List LedgerPending) → SameMembers xs ys
    → SameMembers (flushed_standing xs pending) (flushed_standing ys pending)
flushed_same xs ys pending same =
    let test : Standing → Bool = λ s. not (is_pending pending s.key) in
    same_append (filter test xs) (filter_map standing_of_pending pending) (filter test ys) (filter_map standing_of_pending pending)
    (kept_same test xs ys same) (same_self (filter_map standing_of_pending pending))

pub flushed_has : (blocks : BlockLaws) (known : FlushLaws) (laws : WriteLaws) (file : List ℕ) (b : Book) (l : Ledger) → IsOf file b
    → b.place.head.segments ≡ b.space.segments → HasLedger file b l → HasLedger (flushed_file b file) (settled b) (flush l)
flushed_has blocks known laws file b l of grown has =
    let before : List Standing = standing_of (view_of b.place.head file) in
    let new : List Standing = standing_of (view_of b.place.head (flushed_file b file)) in
    let waits : l.pending ≡ pending_of b.cache = ap (λ (x : Ledger). x.pending) has.of_book in
    let stands : SameMembers (flushed_standing l.standing (pending_of b.cache)) new =
    same_through (flushed_standing l.standing (pending_of b.cache)) (flushed_standing before (pending_of b.cache)) new
    (flushed_same l.standing before (pending_of b.cache) has.standing) (stands_now blocks known laws file b of grown) in
    record {
      of_book =
          ap flush has.of_book ∙ rest_same b l.standing (flushed_standing l.standing (pending_of b.cache)) grown
          ∙ ap (λ p. ledger_of (flushed_standing l.standing p) (settled b)) (sym waits);
      standing = subst (λ p. SameMembers (flushed_standing l.standing p) new) (sym waits) stands;
    }

-- ---- where nothing waits

nothing_flushed : (xs : List Standing) → SameMembers (flushed_standing xs []) xs
nothing_flushed xs = record {
  there = λ x a. ⊎_elim
      (λ front. (in_filter (λ s. not (is_pending [] s.key)) xs x front).0)
      (λ none. absurd none)
      (in_append (filter (λ s. not (is_pending [] s.key)) xs) [] x a);
  back = λ x a. append_in (filter (λ s. not (is_pending [] s.key)) xs) [] x
      (inl (filter_in (λ s. not (is_pending [] s.key)) xs x a refl));
}

pub nothing_has : (file : List ℕ) (b : Book) (l : Ledger) → b.cache ≡ [] → b.space.segments ≡ b.place.head.segments → HasLedger file b l
    → HasLedger file b (flush l)
nothing_has file b l none grown has =
    let v : View = view_of b.place.head file in
    let empty : l.pending ≡ [] = ap (λ (x : Ledger). x.pending) has.of_book ∙ ap pending_of none in
    record {
      of_book = λ i. record {
        max = (has.of_book i).max;
        filed = (ap (λ (x : Ledger). x.segments) has.of_book ∙ grown) i;
        segments = (has.of_book i).segments;
        standing = flushed_standing l.standing l.pending;
        pending = ap pending_of (sym none) i;
      };
      standing = same_through (flushed_standing l.standing l.pending) l.standing (standing_of v)
          (subst (λ p. SameMembers (flushed_standing l.standing p) l.standing) (sym empty) (nothing_flushed l.standing)) has.standing;
    }
