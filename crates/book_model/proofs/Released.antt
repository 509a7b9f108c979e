-- A touched key gives up its block.
use Rattle.std.proofs.Common.{◌≡◌, ◌⊎◌, inl, inr, ⊎_elim, ℕ, List, [], ◌∷◌, Option, Some, None, refl, sym, ap, ◌∙◌, subst}
use Rattle.term_model.specs.Hash.{hash_of}
use Rattle.space_model.specs.Runs.{Run}
use Rattle.space_model.specs.Apart.{In, Pairs, SameMembers, Apart}
use Rattle.file_model.specs.declared.entry.Entry.{Entry}
use Rattle.write_cache.specs.declared.pending.Pending.{Pending}
use Rattle.write_cache.specs.Waiting.{Waiting, state_of, with_state, HasDistinctKeys}
use Rattle.book_model.specs.declared.change.Change.{Change}
use Rattle.book_model.specs.Book.{held, IsParted, Book, entry_run, entry_runs, pending_entry, olds_of, OtherUnit, IsInOrder, IsWellFormed}
use Rattle.book_model.specs.Planning.{IsChange, without_run, with_deferred, stands_for, emptied, released}
use Rattle.book_model.proofs.Members.{append_in, in_append, map_in, in_map, filter_map_in, Through, filter_map_pairs, pairs_append, same_map, same_through, two_of}
use Rattle.book_model.proofs.Waits.{Touched, other_key, found_in, in_put}
use Rattle.book_model.proofs.Told.{OfOther, told_same, told_pairs, from_put, put_told, other_stays, other_told, from_told}
use Rattle.book_model.proofs.Runs.{swapped, runs_pair, run_was, run_left, runs_apart, entry_stays, entries_apart, taken_without}

pub entry_taken : (b : Book) → IsInOrder b → (e : Entry) → In e b.directory → In (entry_run e) b.space.taken
entry_taken b order e a = order.taken.back (entry_run e) (map_in entry_run b.directory e a)

-- the law of write_cache that a key that gets a state is there once
abbrev pub StaysDistinct : Type 0
StaysDistinct = (w : Waiting) (key : List ℕ) (s : Pending) → HasDistinctKeys w → HasDistinctKeys (with_state w key s)

-- What is known of the entry that a change takes out of the directory: it is there, and no other pending key's.
pub record Leaves (b : Book) (c : Change) (e : Entry) : Type 0 where
  pub there : In e b.directory
  pub others : (f : Entry) → OfOther pending_entry b.cache c.key f → f.unit ≡ e.unit → ⊥

pending_leaves : (b : Book) (c : Change) (s : Pending) (e : Entry) → IsInOrder b → HasDistinctKeys b.cache → state_of b.cache c.key ≡ Some s
    → pending_entry s ≡ Some e → Leaves b c e
pending_leaves b c s e order distinct has is =
    let there = found_in b.cache c.key s has in
    record {
      there = order.listed e (filter_map_in (λ (x : Touched). pending_entry x.1) b.cache (c.key, s) e there is);
      others = λ f other same. ⊎_elim
          (λ one. absurd (other_key other.touched.0 c.key other.other (ap (λ (x : Touched). x.0) one)))
          (λ apart. ⊎_elim (λ x. x f e other.is is same) (λ x. x e f is other.is (sym same)) apart)
          (two_of (Through (λ (x : Touched). pending_entry x.1) OtherUnit) b.cache other.touched (c.key, s)
          (filter_map_pairs (λ (x : Touched). pending_entry x.1) OtherUnit b.cache order.units) other.there there);
    }

leaves_by : (b : Book) (c : Change) (earlier : Option Pending) (e : Entry) → IsInOrder b → HasDistinctKeys b.cache → IsChange b c
    → state_of b.cache c.key ≡ earlier → c.old ≡ Some e → Leaves b c e
leaves_by b c None e order distinct can has is =
    let standing = (can.standing has e is).0 in
    record { there = standing.there; others = λ f other same. standing.not_pending f (other_told pending_entry b.cache c.key f other) same }
leaves_by b c (Some s) e order distinct can has is = pending_leaves b c s e order distinct has (sym (can.pending s has) ∙ is)

pub leaves : (b : Book) (c : Change) (e : Entry) → IsInOrder b → HasDistinctKeys b.cache → IsChange b c → c.old ≡ Some e → Leaves b c e
leaves b c e order distinct can is = leaves_by b c (state_of b.cache c.key) e order distinct can refl is

-- ---- what is deferred, and what stands for the keys

pub none_some : {X : Type 0} (o : Option X) (x : X) → o ≡ None → o ≡ Some x → ⊥
none_some o x e f = absurd (cc (e, f))

old_of : Pending → Option Entry
old_of s = s.old

-- the state in which a key waits without a block, by what was known of it
abbrev pub emptied_as : Change → Option Pending → Option Entry → Pending
emptied_as c earlier o = record { block = None; unit = 0; hash = c.hash; old = stands_for earlier o }

-- what stood for a key that did not wait comes to the deferred runs
pub record Joins (b : Book) (c : Change) (earlier : Option Pending) (o : Option Entry) : Type 0 where
  pub deferred : SameMembers (with_deferred earlier o b.space.deferred) (entry_runs (olds_of (with_state b.cache c.key (emptied_as c earlier o))))
  pub were : (r : Run) → In r (with_deferred earlier o b.space.deferred) → In r b.space.deferred ⊎ In r b.space.taken
  pub apart : Pairs Apart (with_deferred earlier o b.space.deferred)
  pub beside : (r q : Run) → In r (without_run o b.space.taken) → In q (with_deferred earlier o b.space.deferred) → Apart r q

module _ (n : ℕ) (b : Book) (c : Change) (formed : IsWellFormed n b) where
  joins_pending : (s : Pending) (o : Option Entry) → state_of b.cache c.key ≡ Some s → Joins b c (Some s) o
  joins_pending s o has = record {
    deferred = same_through b.space.deferred (entry_runs (olds_of b.cache)) (entry_runs (olds_of (with_state b.cache c.key (emptied_as c (Some s) o))))
        formed.order.deferred (same_map entry_run (olds_of b.cache) (olds_of (with_state b.cache c.key (emptied_as c (Some s) o)))
        (told_same (λ (x : Pending). x.old) b.cache c.key s (emptied_as c (Some s) o) formed.distinct has refl (found_in b.cache c.key s has)));
    were = λ r a. inl a;
    apart = formed.parted.deferred_apart;
    beside = λ r q a d. formed.parted.beside r q (run_was o b.space.taken r a) d;
  }

  joins_none : state_of b.cache c.key ≡ None → Joins b c None None
  joins_none none =
      let t : Pending = emptied_as c None None in
      record {
        deferred = same_through b.space.deferred (entry_runs (olds_of b.cache)) (entry_runs (olds_of (with_state b.cache c.key t)))
            formed.order.deferred (same_map entry_run (olds_of b.cache) (olds_of (with_state b.cache c.key t)) (record {
              there = λ y a. ⊎_elim
                  (λ own. absurd (none_some (state_of b.cache c.key) own.state none own.has))
                  (λ other. other_stays (λ (x : Pending). x.old) b.cache c.key t y other)
                  (from_told (λ (x : Pending). x.old) b.cache c.key y formed.distinct a);
              back = λ y a. ⊎_elim
                  (λ own. absurd (cc own))
                  (λ other. other_told (λ (x : Pending). x.old) b.cache c.key y other)
                  (from_put (λ (x : Pending). x.old) b.cache c.key t y formed.distinct a);
            }));
        were = λ r a. inl a;
        apart = formed.parted.deferred_apart;
        beside = formed.parted.beside;
      }

  joins_some : (e : Entry) → state_of b.cache c.key ≡ None → In e b.directory → Joins b c None (Some e)
  joins_some e none there =
      let t : Pending = emptied_as c None (Some e) in
      let own_taken = entry_taken b formed.order e there in
      let news : List Entry = olds_of (with_state b.cache c.key t) in
      record {
        deferred = record {
          there = λ r a. ⊎_elim
              (λ was.
              let f = in_map entry_run (olds_of b.cache) r (formed.order.deferred.there r was) in
              subst (λ z. In z (entry_runs news)) f.2 (map_in entry_run news f.0 (⊎_elim
              (λ own. absurd (none_some (state_of b.cache c.key) own.state none own.has))
              (λ other. other_stays (λ (x : Pending). x.old) b.cache c.key t f.0 other)
              (from_told (λ (x : Pending). x.old) b.cache c.key f.0 formed.distinct f.1))))
              (λ last. ⊎_elim
              (λ here. subst (λ z. In z (entry_runs news)) here (map_in entry_run news e (put_told (λ (x : Pending). x.old) b.cache c.key t e refl)))
              (λ nothing. absurd nothing)
              last)
              (in_append b.space.deferred (entry_run e ∷ []) r a);
          back = λ r a.
              let f = in_map entry_run news r a in
              append_in b.space.deferred (entry_run e ∷ []) r (⊎_elim
              (λ own. let same : e ≡ f.0 = cc own in inr (inl (ap entry_run same ∙ f.2)))
              (λ other. inl (formed.order.deferred.back r (subst (λ z. In z (entry_runs (olds_of b.cache))) f.2
              (map_in entry_run (olds_of b.cache) f.0 (other_told (λ (x : Pending). x.old) b.cache c.key f.0 other)))))
              (from_put (λ (x : Pending). x.old) b.cache c.key t f.0 formed.distinct f.1));
        };
        were = λ r a. ⊎_elim
            (λ was. inl was)
            (λ last. ⊎_elim (λ here. inr (subst (λ z. In z b.space.taken) here own_taken)) (λ nothing. absurd nothing) last)
            (in_append b.space.deferred (entry_run e ∷ []) r a);
        apart = pairs_append Apart b.space.deferred (entry_run e ∷ []) formed.parted.deferred_apart ((λ y a. absurd a), tt)
            (λ x y d last. ⊎_elim
            (λ here. subst (λ z. Apart x z) here (swapped (entry_run e) x (formed.parted.beside (entry_run e) x own_taken d)))
            (λ nothing. absurd nothing)
            last);
        beside = λ r q a d.
            let was = run_was (Some e) b.space.taken r a in ⊎_elim
            (λ deferred. formed.parted.beside r q was deferred)
            (λ last. ⊎_elim
            (λ here. subst (λ z. Apart r z) here (⊎_elim
            (λ same. absurd (run_left e b.space.taken r a (ap (λ (z : Run). z.unit) same)))
            (λ apart. apart)
            (runs_pair b.space.taken r (entry_run e) formed.parted.taken_apart was own_taken)))
            (λ nothing. absurd nothing)
            last)
            (in_append b.space.deferred (entry_run e ∷ []) q d);
      }

  joins_by : (earlier : Option Pending) (o : Option Entry) → state_of b.cache c.key ≡ earlier → ((e : Entry) → o ≡ Some e → In e b.directory)
      → Joins b c earlier o
  joins_by (Some s) o has there = joins_pending s o has
  joins_by None None has there = joins_none has
  joins_by None (Some e) has there = joins_some e has (there e refl)

  pub joins : IsChange b c → Joins b c (state_of b.cache c.key) c.old
  joins can = joins_by (state_of b.cache c.key) c.old refl (λ e is. (leaves b c e formed.order formed.distinct can is).there)

  -- ---- all of it

  order_released : IsChange b c → IsInOrder (released b c)
  order_released can =
      let t : Pending = emptied c (state_of b.cache c.key) in
      let order = formed.order in
      record {
        header = order.header;
        at_least = order.at_least;
        at_most = order.at_most;
        entries = entries_apart c.old b.directory order.entries;
        taken = taken_without c.old b.space.taken b.directory order.taken;
        units = told_pairs pending_entry OtherUnit b.cache c.key t formed.distinct order.units (λ x y other own. absurd (cc own));
        listed = λ f a. ⊎_elim
            (λ own. absurd (cc own))
            (λ other. entry_stays c.old b.directory f (order.listed f (other_told pending_entry b.cache c.key f other))
            (λ e is. (leaves b c e order formed.distinct can is).others f other))
            (from_put pending_entry b.cache c.key t f formed.distinct a);
        deferred = (joins can).deferred;
        hashed = λ e a. ⊎_elim
            (λ own. subst (λ (x : Touched). x.1.hash ≡ hash_of x.0) (sym own) can.hashed)
            (λ other. order.hashed e other.0)
            (in_put b.cache c.key t e formed.distinct a);
      }

  parted_released : IsChange b c → IsParted n (released b c).space
  parted_released can =
      let join = joins can in
      record {
        taken_runs = λ r a. formed.parted.taken_runs r (run_was c.old b.space.taken r a);
        deferred_runs = λ r a. ⊎_elim (λ d. formed.parted.deferred_runs r d) (λ t. formed.parted.taken_runs r t) (join.were r a);
        taken_apart = runs_apart c.old b.space.taken formed.parted.taken_apart;
        deferred_apart = join.apart;
        beside = join.beside;
      }

  pub released_formed : StaysDistinct → IsChange b c → IsWellFormed n (released b c)
  released_formed stays can = record {
    order = order_released can;
    parted = parted_released can;
    distinct = stays b.cache c.key (emptied c (state_of b.cache c.key)) formed.distinct;
  }

  -- no more runs are held than before
  pub released_held : IsChange b c → (r : Run) → In r (held (released b c).space) → In r (held b.space)
  released_held can r a = append_in b.space.taken b.space.deferred r (⊎_elim
      (λ t. inl (run_was c.old b.space.taken r t))
      (λ d. ⊎_elim (λ x. inr x) (λ x. inl x) ((joins can).were r d))
      (in_append (without_run c.old b.space.taken) (with_deferred (state_of b.cache c.key) c.old b.space.deferred) r a))
