-- The entries of the blocks in the file are the same, whatever is served.
use Rattle.std.proofs.Common.{◌≡◌, ◌⊎◌, inl, inr, ⊎_elim, ℕ, Bool, ◌==◌, List, Option, Some, None, Ok, refl, sym, ap, ◌∙◌, subst}
use Rattle.std.specs.Prelude.{not, filter, option_map}
use Rattle.std.specs.List.{list_any}
use Rattle.std.proofs.lemmas.Bool.{cases_Bool, both_ways, eqb-true, eq-eqb, not-true, not_from_false, false_from_ne_true}
use Rattle.space_model.specs.Runs.{run}
use Rattle.space_model.specs.Apart.{In, SameMembers}
use Rattle.file_model.specs.declared.block.Packed.{Packed}
use Rattle.file_model.specs.declared.entry.Entry.{Entry}
use Rattle.write_cache.specs.declared.pending.Pending.{Pending}
use Rattle.write_cache.specs.Waiting.{state_of}
use Rattle.book_model.specs.declared.change.Change.{Change}
use Rattle.book_model.specs.Book.{Book, entry_run, new_entry, pending_entry, pending_entries, olds_of, IsWellFormed}
use Rattle.book_model.specs.Planning.{IsStanding, IsChange, without_entry, emptied, released, given, grown, moved, serve}
use Rattle.book_model.specs.LedgerOf.{filed_entries}
use Rattle.book_model.proofs.Members.{append_in, in_append, in_filter, filter_in, filter_map_in, any_passes, passes_any, same_through}
use Rattle.book_model.proofs.Waits.{Touched, found_in, state_in}
use Rattle.book_model.proofs.Told.{from_told, other_told, put_told, other_stays, from_put}
use Rattle.book_model.proofs.Runs.{not_apart, same_unit, entry_was, entry_left, entry_stays}
use Rattle.book_model.proofs.Released.{entry_taken, none_some, leaves}
use Rattle.book_model.proofs.Given.{CanGive, with_block, free_taken, given_olds}
use Rattle.book_model.specs.Below.{PlaceLaws}
use Rattle.book_model.proofs.Served.{serve_ways, given_way, way_formed}

-- ---- the list, by its members

abbrev pub pending_at_unit : Book → Entry → Bool
pending_at_unit b e = list_any (λ (f : Entry). f.unit == e.unit) (pending_entries b.cache)

pub filed_from : (b : Book) (e : Entry) → In e (filed_entries b) → IsStanding b e ⊎ In e (olds_of b.cache)
filed_from b e a = ⊎_elim
    (λ front.
    let f = in_filter (λ (x : Entry). not (pending_at_unit b x)) b.directory e front in
    inl (record {
      there = f.0;
      not_pending = λ g there same. both_ways (pending_at_unit b e) (not-true (pending_at_unit b e) f.1)
          (passes_any (λ (x : Entry). x.unit == e.unit) (pending_entries b.cache) g there (eq-eqb g.unit e.unit same));
    }))
    (λ behind. inr behind)
    (in_append (filter (λ (x : Entry). not (pending_at_unit b x)) b.directory) (olds_of b.cache) e a)

pub filed_in : (b : Book) (e : Entry) → IsStanding b e ⊎ In e (olds_of b.cache) → In e (filed_entries b)
filed_in b e a = append_in (filter (λ (x : Entry). not (pending_at_unit b x)) b.directory) (olds_of b.cache) e (⊎_elim
    (λ standing. inl (filter_in (λ (x : Entry). not (pending_at_unit b x)) b.directory e standing.there
    (not_from_false (pending_at_unit b e) (false_from_ne_true (pending_at_unit b e) (λ yes.
    let r = any_passes (λ (x : Entry). x.unit == e.unit) (pending_entries b.cache) yes in
    standing.not_pending r.member r.there (eqb-true r.member.unit e.unit r.is))))))
    (λ old. inr old)
    a)

unit_cases : (a c : ℕ) → (a ≡ c) ⊎ (a ≡ c → ⊥)
unit_cases a c = ⊎_elim (λ yes. inl (eqb-true a c yes)) (λ no. inr (λ same. both_ways (a == c) no (eq-eqb a c same))) (cases_Bool (a == c))

no_entry : (s : Pending) (f : Entry) → s.block ≡ None → pending_entry s ≡ Some f → ⊥
no_entry s f none is =
    let gone : pending_entry s ≡ None = ap (λ (o : Option Packed). option_map (new_entry s.hash s.unit) o) none in
    none_some (pending_entry s) f gone is

-- ---- a key gives up its block

module _ (n : ℕ) (b : Book) (c : Change) (formed : IsWellFormed n b) (can : IsChange b c) where
  abbrev t : Pending
  t = emptied c (state_of b.cache c.key)

  olds_were : (o : Option Pending) (e : Entry) → state_of b.cache c.key ≡ o → In e (olds_of (released b c).cache) → IsStanding b e ⊎ In e (olds_of b.cache)
  olds_were None e has a = ⊎_elim
      (λ own. inl (can.standing has e (subst (λ x. (emptied c x).old ≡ Some e) has own)).0)
      (λ other. inr (other_told (λ (x : Pending). x.old) b.cache c.key e other))
      (from_put (λ (x : Pending). x.old) b.cache c.key t e formed.distinct a)
  olds_were (Some s) e has a = ⊎_elim
      (λ own. inr (filter_map_in (λ (x : Touched). x.1.old) b.cache (c.key, s) e (found_in b.cache c.key s has)
      (subst (λ x. (emptied c x).old ≡ Some e) has own)))
      (λ other. inr (other_told (λ (x : Pending). x.old) b.cache c.key e other))
      (from_put (λ (x : Pending). x.old) b.cache c.key t e formed.distinct a)

  olds_stay : (e : Entry) → In e (olds_of b.cache) → In e (olds_of (released b c).cache)
  olds_stay e a = ⊎_elim
      (λ own. put_told (λ (x : Pending). x.old) b.cache c.key t e (subst (λ x. (emptied c x).old ≡ Some e) (sym own.has) own.is))
      (λ other. other_stays (λ (x : Pending). x.old) b.cache c.key t e other)
      (from_told (λ (x : Pending). x.old) b.cache c.key e formed.distinct a)

  pub pending_were : (f : Entry) → In f (pending_entries (released b c).cache) → In f (pending_entries b.cache)
  pending_were f a = ⊎_elim
      (λ own. absurd (cc own))
      (λ other. other_told pending_entry b.cache c.key f other)
      (from_put pending_entry b.cache c.key t f formed.distinct a)

  -- where it was not pending the entry that the change takes out now stands for the key
  goes : (o : Option Pending) (e : Entry) → state_of b.cache c.key ≡ o → c.old ≡ Some e → IsStanding b e → In e (olds_of (released b c).cache)
  goes None e has old standing = put_told (λ (x : Pending). x.old) b.cache c.key t e (subst (λ x. (emptied c x).old ≡ Some e) (sym has) old)
  goes (Some s) e has old standing = absurd (standing.not_pending e
      (filter_map_in (λ (x : Touched). pending_entry x.1) b.cache (c.key, s) e (found_in b.cache c.key s has) (sym (can.pending s has) ∙ old)) refl)

  standing_stays : (e : Entry) (o : Option Entry) → c.old ≡ o → IsStanding b e → IsStanding (released b c) e ⊎ In e (olds_of (released b c).cache)
  standing_stays e None old standing = inl (record {
    there = entry_stays c.old b.directory e standing.there (λ g is same. none_some c.old g old is);
    not_pending = λ f a same. standing.not_pending f (pending_were f a) same;
  })
  standing_stays e (Some g) old standing = ⊎_elim
      (λ same.
      let leaf = leaves b c g formed.order formed.distinct can old in
      let one : e ≡ g = same_unit b.directory e g formed.order.entries standing.there leaf.there same in
      inr (goes (state_of b.cache c.key) e refl (old ∙ ap Some (sym one)) standing))
      (λ apart. inl (record {
        there = entry_stays c.old b.directory e standing.there (λ h is same.
            let one : g ≡ h = cc (old, is) in apart (same ∙ ap (λ (x : Entry). x.unit) (sym one)));
        not_pending = λ f a same. standing.not_pending f (pending_were f a) same;
      }))
      (unit_cases e.unit g.unit)

  not_pending_before : (e : Entry) → IsStanding (released b c) e → (f : Entry) → In f (pending_entries b.cache) → f.unit ≡ e.unit → ⊥
  not_pending_before e standing f a same = ⊎_elim
      (λ own.
      let old : c.old ≡ Some f = can.pending own.state own.has ∙ own.is in
      entry_left f b.directory e (subst (λ o. In e (without_entry o b.directory)) old standing.there) (sym same))
      (λ other. standing.not_pending f (other_stays pending_entry b.cache c.key t f other) same)
      (from_told pending_entry b.cache c.key f formed.distinct a)

  pub released_filed : SameMembers (filed_entries b) (filed_entries (released b c))
  released_filed = record {
    there = λ e a. filed_in (released b c) e (⊎_elim
        (λ standing. standing_stays e c.old refl standing) (λ old. inr (olds_stay e old)) (filed_from b e a));
    back = λ e a. filed_in b e (⊎_elim
        (λ standing. inl (record { there = entry_was c.old b.directory e standing.there; not_pending = not_pending_before e standing }))
        (λ old. olds_were (state_of b.cache c.key) e refl old)
        (filed_from (released b c) e a));
  }

-- ---- and gets one

module _ (n : ℕ) (b : Book) (key : List ℕ) (s : Pending) (p : Packed) (unit : ℕ) (formed : IsWellFormed n b) (can : CanGive n b key s p unit) where
  pub given_filed : SameMembers (filed_entries b) (filed_entries (given b key s p unit))
  given_filed =
      let olds = given_olds n b key s p unit formed can in
      record {
        there = λ e a. filed_in (given b key s p unit) e (⊎_elim
            (λ standing. inl (record {
              there = inr standing.there;
              not_pending = λ f there same. ⊎_elim
                  (λ own.
                  let is : new_entry s.hash unit p ≡ f = cc own in
                  not_apart (run unit p.exp) (entry_run e) (ap (λ (x : Entry). x.unit) is ∙ same)
                  (free_taken n b key s p unit formed can (entry_run e) (entry_taken b formed.order e standing.there)))
                  (λ other. standing.not_pending f (other_told pending_entry b.cache key f other) same)
                  (from_put pending_entry b.cache key (with_block s p unit) f formed.distinct there);
            }))
            (λ old. inr (olds.there e old))
            (filed_from b e a));
        back = λ e a. filed_in b e (⊎_elim
            (λ standing. ⊎_elim
            (λ own. absurd (standing.not_pending (new_entry s.hash unit p)
            (put_told pending_entry b.cache key (with_block s p unit) (new_entry s.hash unit p) refl) (ap (λ (x : Entry). x.unit) own)))
            (λ later. inl (record {
              there = later;
              not_pending = λ f there same. ⊎_elim
                  (λ own.
                  let state : own.state ≡ s = let h = own.has in cc (h, state_in b.cache (key, s) formed.distinct can.waits) in
                  let none : own.state.block ≡ None = ap (λ (x : Pending). x.block) state ∙ can.empty in
                  no_entry own.state f none own.is)
                  (λ other. standing.not_pending f (other_stays pending_entry b.cache key (with_block s p unit) f other) same)
                  (from_told pending_entry b.cache key f formed.distinct there);
            }))
            standing.there)
            (λ old. inr (olds.back e old))
            (filed_from (given b key s p unit) e a));
      }

-- ---- so they are served

pub serve_filed : (laws : PlaceLaws) (n : ℕ) (b : Book) (c : Change) (new : Book) → IsWellFormed n b → IsChange b c → serve n b c ≡ Ok new
    → SameMembers (filed_entries b) (filed_entries new)
serve_filed laws n b c new formed can is = ⊎_elim
    (λ e. subst (λ x. SameMembers (filed_entries b) (filed_entries x)) (sym e.is) (released_filed n b c formed can))
    (λ m. subst (λ x. SameMembers (filed_entries b) (filed_entries x)) (sym m.is) (same_through (filed_entries b) (filed_entries (released b c))
    (filed_entries (moved b c m.packed m.segments m.unit)) (released_filed n b c formed can)
    (given_filed n (grown (released b c) m.segments) c.key (emptied c (state_of b.cache c.key)) m.packed m.unit
    (way_formed laws n b c formed can new m) (given_way laws n b c formed can new m))))
    (serve_ways laws n b c formed can new is)
