-- Books that are alike.
use Rattle.std.proofs.Common.{◌≡◌, ◌≤◌, inl, inr, ⊎_elim, ℕ, ◌-◌, List, [], ◌∷◌, map, Option, Some, None, Result, Ok, Err, refl, sym, ap, ◌∙◌, subst}
use Rattle.term_model.specs.Hash.{hash_of}
use Rattle.space_model.specs.Runs.{Run, run}
use Rattle.space_model.specs.Apart.{In, Pairs, SameMembers}
use Rattle.space_model.specs.Ledger.{Standing, Placed, place_growing}
use Rattle.file_model.specs.declared.block.Packed.{Packed}
use Rattle.file_model.specs.declared.entry.Entry.{Entry}
use Rattle.file_model.specs.declared.head.Located.{Located}
use Rattle.file_model.specs.Header.{is_allowed}
use Rattle.write_cache.specs.declared.pending.Pending.{Pending}
use Rattle.write_cache.specs.Waiting.{Waiting, state_of, with_state, HasDistinctKeys}
use Rattle.book_model.specs.declared.change.Change.{Change}
use Rattle.book_model.specs.Book.{held, IsParted, Book, entry_run, entry_runs, new_entry, pending_entries, olds_of, OtherUnit, MeetsNot, IsWellFormed, IsAlike, AreAlike}
use Rattle.book_model.specs.Planning.{IsStanding, without_run, without_entry, with_deferred, emptied, released, grown, moved, kept_unit, served_at, served_with, served, serve, after_served, serve_all, or_before, planned}
use Rattle.book_model.specs.LedgerOf.{filed_entries, AreStanding, ledger_of}
use Rattle.book_model.specs.Below.{LedgerLaws}
use Rattle.book_model.proofs.Members.{same_self, same_back, same_through, same_append, same_map, same_more, pairs_also}
use Rattle.book_model.proofs.Runs.{run_was, run_left, run_stays, entry_was, entry_left, entry_stays, entries_pair}
use Rattle.book_model.proofs.Filed.{filed_from, filed_in}
use Rattle.book_model.proofs.LedgerMoves.{growing_same}

-- ---- as an equivalence

pub alike_self : (a : Book) → IsAlike a a
alike_self a = record {
  place = refl;
  segments = refl;
  taken = same_self a.space.taken;
  deferred = same_self a.space.deferred;
  directory = same_self a.directory;
  cache = refl;
}

pub alike_back : (a b : Book) → IsAlike a b → IsAlike b a
alike_back a b k = record {
  place = sym k.place;
  segments = sym k.segments;
  taken = same_back a.space.taken b.space.taken k.taken;
  deferred = same_back a.space.deferred b.space.deferred k.deferred;
  directory = same_back a.directory b.directory k.directory;
  cache = sym k.cache;
}

pub alike_through : (a b c : Book) → IsAlike a b → IsAlike b c → IsAlike a c
alike_through a b c k l = record {
  place = l.place ∙ k.place;
  segments = l.segments ∙ k.segments;
  taken = same_through a.space.taken b.space.taken c.space.taken k.taken l.taken;
  deferred = same_through a.space.deferred b.space.deferred c.space.deferred k.deferred l.deferred;
  directory = same_through a.directory b.directory c.directory k.directory l.directory;
  cache = l.cache ∙ k.cache;
}

-- ---- what is known of one is known of the other

module _ (a b : Book) (alike : IsAlike a b) where
  pub alike_ledger : (standing : List Standing) → ledger_of standing b ≡ ledger_of standing a
  alike_ledger standing = λ i. ledger_of standing (record {
    place = alike.place i;
    space = record { segments = alike.segments i; taken = []; deferred = [] };
    directory = [];
    cache = alike.cache i;
  })

  same_pending : pending_entries b.cache ≡ pending_entries a.cache
  same_pending = ap pending_entries alike.cache

  standing_there : (e : Entry) → IsStanding a e → IsStanding b e
  standing_there e s = record {
    there = alike.directory.there e s.there;
    not_pending = λ f there. s.not_pending f (subst (λ fs. In f fs) same_pending there);
  }

  standing_back : (e : Entry) → IsStanding b e → IsStanding a e
  standing_back e s = record {
    there = alike.directory.back e s.there;
    not_pending = λ f there. s.not_pending f (subst (λ fs. In f fs) (sym same_pending) there);
  }

  pub alike_filed : SameMembers (filed_entries a) (filed_entries b)
  alike_filed = record {
    there = λ e x. filed_in b e (⊎_elim
        (λ s. inl (standing_there e s)) (λ o. inr (subst (λ w. In e (olds_of w)) (sym alike.cache) o)) (filed_from a e x));
    back = λ e x. filed_in a e (⊎_elim
        (λ s. inl (standing_back e s)) (λ o. inr (subst (λ w. In e (olds_of w)) alike.cache o)) (filed_from b e x));
  }

  pub alike_standing : (standing : List Standing) → AreStanding standing a → AreStanding standing b
  alike_standing standing stands = same_through (map (λ (s : Standing). s.run) standing) (entry_runs (filed_entries a)) (entry_runs (filed_entries b)) stands
      (same_map entry_run (filed_entries a) (filed_entries b) alike_filed)

  pub alike_formed : (n : ℕ) → IsWellFormed n a → IsParted n b.space → Pairs OtherUnit b.directory → IsWellFormed n b
  alike_formed n formed parted units =
      let order = formed.order in
      record {
        order = record {
          header = ap (λ (x : Located). is_allowed x.head) alike.place ∙ order.header;
          at_least = subst (λ (x : Located). x.head.segments ≤ b.space.segments) (sym alike.place)
              (subst (λ s. a.place.head.segments ≤ s) (sym alike.segments) order.at_least);
          at_most = subst (λ (x : Located). b.space.segments ≤ x.head.max_segments) (sym alike.place)
              (subst (λ s. s ≤ a.place.head.max_segments) (sym alike.segments) order.at_most);
          entries = pairs_also OtherUnit MeetsNot b.directory (λ e f x y apart. ⊎_elim
              (λ one. absurd (apart (ap (λ (z : Entry). z.unit) one)))
              (λ meets_not. meets_not)
              (entries_pair a.directory e f order.entries (alike.directory.back e x) (alike.directory.back f y))) units;
          taken = same_through b.space.taken a.space.taken (entry_runs b.directory) (same_back a.space.taken b.space.taken alike.taken)
              (same_through a.space.taken (entry_runs a.directory) (entry_runs b.directory) order.taken
              (same_map entry_run a.directory b.directory alike.directory));
          units = subst (λ fs. Pairs OtherUnit fs) (sym same_pending) order.units;
          listed = λ e x. alike.directory.there e (order.listed e (subst (λ fs. In e fs) same_pending x));
          deferred = subst (λ w. SameMembers b.space.deferred (entry_runs (olds_of w))) (sym alike.cache)
              (same_through b.space.deferred a.space.deferred (entry_runs (olds_of a.cache))
              (same_back a.space.deferred b.space.deferred alike.deferred) order.deferred);
          hashed = subst (λ (w : Waiting). (e : List ℕ × Pending) → In e w → e.1.hash ≡ hash_of e.0) (sym alike.cache) order.hashed;
        };
        parted = parted;
        distinct = subst (λ w. HasDistinctKeys w) (sym alike.cache) formed.distinct;
      }

-- ---- alike books are served alike

runs_alike : (o : Option Entry) (xs ys : List Run) → SameMembers xs ys → SameMembers (without_run o xs) (without_run o ys)
runs_alike None xs ys s = s
runs_alike (Some e) xs ys s = record {
  there = λ r x. run_stays (Some e) ys r (s.there r (run_was (Some e) xs r x)) (λ g is same.
      let one : e ≡ g = cc is in run_left e xs r x (same ∙ ap (λ (z : Entry). z.unit) (sym one)));
  back = λ r x. run_stays (Some e) xs r (s.back r (run_was (Some e) ys r x)) (λ g is same.
      let one : e ≡ g = cc is in run_left e ys r x (same ∙ ap (λ (z : Entry). z.unit) (sym one)));
}

entries_alike : (o : Option Entry) (xs ys : List Entry) → SameMembers xs ys → SameMembers (without_entry o xs) (without_entry o ys)
entries_alike None xs ys s = s
entries_alike (Some e) xs ys s = record {
  there = λ f x. entry_stays (Some e) ys f (s.there f (entry_was (Some e) xs f x)) (λ g is same.
      let one : e ≡ g = cc is in entry_left e xs f x (same ∙ ap (λ (z : Entry). z.unit) (sym one)));
  back = λ f x. entry_stays (Some e) xs f (s.back f (entry_was (Some e) ys f x)) (λ g is same.
      let one : e ≡ g = cc is in entry_left e ys f x (same ∙ ap (λ (z : Entry). z.unit) (sym one)));
}

deferred_alike : (earlier : Option Pending) (o : Option Entry) (xs ys : List Run) → SameMembers xs ys
    → SameMembers (with_deferred earlier o xs) (with_deferred earlier o ys)
deferred_alike (Some p) o xs ys s = s
deferred_alike None None xs ys s = s
deferred_alike None (Some e) xs ys s = same_append xs (entry_run e ∷ []) ys (entry_run e ∷ []) s (same_self (entry_run e ∷ []))

released_alike : (a b : Book) (c : Change) → IsAlike a b → IsAlike (released a c) (released b c)
released_alike a b c k = record {
  place = k.place;
  segments = k.segments;
  taken = runs_alike c.old a.space.taken b.space.taken k.taken;
  deferred = subst
      (λ (w : Waiting). SameMembers (with_deferred (state_of a.cache c.key) c.old a.space.deferred) (with_deferred (state_of w c.key) c.old b.space.deferred))
      (sym k.cache) (deferred_alike (state_of a.cache c.key) c.old a.space.deferred b.space.deferred k.deferred);
  directory = entries_alike c.old a.directory b.directory k.directory;
  cache = ap (λ w. with_state w c.key (emptied c (state_of w c.key))) k.cache;
}

moved_alike : (a b : Book) (c : Change) (p : Packed) (segments unit : ℕ) → IsAlike a b → IsAlike (moved a c p segments unit) (moved b c p segments unit)
moved_alike a b c p segments unit k =
    let r = released_alike a b c k in
    record {
      place = r.place;
      segments = refl;
      taken = same_more (run unit p.exp) (released a c).space.taken (released b c).space.taken r.taken;
      deferred = r.deferred;
      directory = same_more (new_entry c.hash unit p) (released a c).directory (released b c).directory r.directory;
      cache = ap (λ w. with_state (with_state w c.key (emptied c (state_of w c.key))) c.key
          (record (emptied c (state_of w c.key)) { block = Some p; unit = unit })) k.cache;
    }

module _ (known : LedgerLaws) (n : ℕ) (a b : Book) (c : Change) (alike : IsAlike a b) where
  at_alike : (p : Packed) (o : Option Placed) → AreAlike (served_at a c p o) (served_at b c p o)
  at_alike p None = refl
  at_alike p (Some at) = moved_alike a b c p at.segments at.unit alike

  same_growing : (p : Packed) → place_growing n (held b.space) p.exp b.space.segments (b.place.head.max_segments - b.space.segments)
      ≡ place_growing n (held a.space) p.exp a.space.segments (a.place.head.max_segments - a.space.segments)
  same_growing p =
      growing_same known n (held b.space) (held a.space)
      (same_back (held a.space) (held b.space) (same_append a.space.taken a.space.deferred b.space.taken b.space.deferred alike.taken alike.deferred))
      p.exp b.space.segments (b.place.head.max_segments - b.space.segments)
      ∙ (λ i. place_growing n (held a.space) p.exp (alike.segments i) ((alike.place i).head.max_segments - alike.segments i))

  with_alike : (p : Packed) (o : Option ℕ) → AreAlike (served_with n a c p o) (served_with n b c p o)
  with_alike p (Some unit) = subst (λ s. IsAlike (moved a c p a.space.segments unit) (moved b c p s unit)) (sym alike.segments)
      (moved_alike a b c p a.space.segments unit alike)
  with_alike p None = subst (λ o. AreAlike (served_with n a c p None) (served_at b c p o)) (sym (same_growing p)) (at_alike p _)

  next_alike : (o : Option Packed) → AreAlike (served n a c o) (served n b c o)
  next_alike None = released_alike a b c alike
  next_alike (Some p) = subst (λ (w : Waiting). AreAlike (served n a c (Some p)) (served_with n b c p (kept_unit (state_of w c.key) p.exp))) (sym alike.cache)
      (with_alike p (kept_unit (state_of a.cache c.key) p.exp))

  pub serve_alike : AreAlike (serve n a c) (serve n b c)
  serve_alike = next_alike c.next

all_by : (known : LedgerLaws) (n : ℕ) (cs : List Change) (r s : Result Book ℕ) → AreAlike r s
    → ((a b : Book) → IsAlike a b → AreAlike (serve_all n a cs) (serve_all n b cs))
    → AreAlike (after_served r (λ next. serve_all n next cs)) (after_served s (λ next. serve_all n next cs))
all_by known n cs (Ok a) (Ok b) alike go = go a b alike
all_by known n cs (Ok a) (Err y) alike go = absurd alike
all_by known n cs (Err x) (Ok b) alike go = absurd alike
all_by known n cs (Err x) (Err y) alike go = alike

pub all_alike : (known : LedgerLaws) (n : ℕ) (cs : List Change) (a b : Book) → IsAlike a b → AreAlike (serve_all n a cs) (serve_all n b cs)
all_alike known n [] a b alike = alike
all_alike known n (c ∷ cs) a b alike = all_by known n cs (serve n a c) (serve n b c) (serve_alike known n a b c alike) (all_alike known n cs)

full_alike : (a b : Book) → IsAlike a b → IsAlike (grown a a.place.head.max_segments) (grown b b.place.head.max_segments)
full_alike a b k = record {
  place = k.place;
  segments = ap (λ (x : Located). x.head.max_segments) k.place;
  taken = k.taken;
  deferred = k.deferred;
  directory = k.directory;
  cache = k.cache;
}

before_alike : (a b : Book) (r s : Result Book ℕ) → IsAlike a b → AreAlike r s → IsAlike (or_before a r) (or_before b s)
before_alike a b (Ok x) (Ok y) alike both = both
before_alike a b (Ok x) (Err y) alike both = absurd both
before_alike a b (Err x) (Ok y) alike both = absurd both
before_alike a b (Err x) (Err y) alike both = full_alike a b alike

pub planned_alike : (known : LedgerLaws) (n : ℕ) (cs : List Change) (a b : Book) → IsAlike a b → IsAlike (planned n a cs) (planned n b cs)
planned_alike known n cs a b alike = before_alike a b (serve_all n a cs) (serve_all n b cs) alike (all_alike known n cs a b alike)
