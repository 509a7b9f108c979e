-- A change comes into the book that is kept in memory as the book that serves it has it.
use Rattle.std.proofs.Common.{◌≡◌, ◌≤◌, ◌<◌, inl, inr, ⊎_elim, ℕ, ◌+◌, ◌-◌, ◌*◌, ◌^◌, false, List, [], ◌∷◌, length, drop, get_or, Option, Some, None, Result, Ok, Err, refl, sym, ap, ◌∙◌, subst, arith}
use Rattle.std.specs.Prelude.{IfSome, bytes_eq}
use Rattle.std.proofs.lemmas.Nat.{mul-le, pow_pos}
use Rattle.std.proofs.lemmas.Bool.{cases_lt}
use Rattle.std.proofs.lemmas.List.{drop_all, drop_more}
use Rattle.space_model.specs.Sizes.{segment_units}
use Rattle.space_model.specs.Runs.{Run}
use Rattle.space_model.specs.Apart.{In, SameMembers, Pairs}
use Rattle.file_model.specs.declared.entry.Entry.{Entry}
use Rattle.write_cache.specs.declared.pending.Pending.{Pending}
use Rattle.write_cache.specs.Waiting.{Waiting, state_of, with_state}
use Rattle.write_cache.proofs.Order.{last_state}
use Rattle.slot_table.specs.BySlot.{BySlot, by_slot, entries_in, with_entry, HasRoomFor, LacksUnit, IsDirectory}
use Rattle.slot_table.proofs.Entering.{in_added, added_old, added_new, in_removed, removed_other}
use Rattle.slot_table.proofs.Keeping.{added_directory, removed_directory}
use Rattle.slot_table.proofs.Tables.{length-by_slot}
use Rattle.buddy_space.specs.SpaceState.{SpaceState, IsParted, held as space_held}
use Rattle.buddy_space.proofs.Parted.{parted_deferring}
use Rattle.buddy_space.proofs.States.{held_after_deferring}
use Rattle.book_model.specs.declared.change.Change.{Change}
use Rattle.book_model.specs.Book.{Book, held as book_held, entry_run, MeetsNot, IsWellFormed}
use Rattle.book_model.specs.Planning.{IsChange, without_entry, with_deferred, emptied, serve, serve_all, after_served}
use Rattle.book_model.proofs.Members.{append_in, in_append, pairs_also, same_append, same_self, same_through}
use Rattle.book_model.proofs.Waits.{flips, put_again}
use Rattle.book_model.proofs.Runs.{not_apart, same_unit, entry_was, entry_left, entry_stays}
use Rattle.book_model.proofs.Released.{leaves, entry_taken}
use Rattle.book_model.proofs.Served.{Moves, Empties, serve_ways, serve_formed}
use Rattle.book_model.proofs.Commands.{carries, same_place, all_kept}
use Rattle.flush_engine.specs.declared.book.Book.{Book as KeptBook}
use Rattle.flush_engine.specs.Ahead.{HaveUnits}
use Rattle.flush_engine.specs.Entering.{left_runs, left_entries, next_entry, come_entries, in_front, next_state, MayEnter}
use Rattle.flush_engine.specs.Coming.{new_entries, Coming}
use Rattle.flush_engine.proofs.Few.{few_units}
use Rattle.flush_engine.proofs.Parts.{allowed_most}
use Rattle.flush_engine.proofs.Bridge.{place_laws, others_kept}

-- ---- what serving a change leaves, in one form

record Served (mid : Book) (c : Change) (unit : ℕ) (next : Book) : Type 0 where
  directory : next.directory ≡ in_front (next_entry c.hash unit c.next) (without_entry c.old mid.directory)
  cache : next.cache ≡ with_state mid.cache c.key (next_state c unit (state_of mid.cache c.key))
  deferred : next.space.deferred ≡ with_deferred (state_of mid.cache c.key) c.old mid.space.deferred

-- the unit of the state that a key has
abbrev unit_of : Option Pending → ℕ
unit_of None = 0
unit_of (Some s) = s.unit

by_empties : (mid next : Book) (c : Change) (unit : ℕ) → unit ≡ 0 → Empties mid c next → Served mid c unit next
by_empties mid next c unit zero e =
    let none = sym e.next in
    let back = sym zero in
    record {
      directory = ap (λ (b : Book). b.directory) e.is ∙ (λ i. in_front (next_entry c.hash unit (none i)) (without_entry c.old mid.directory));
      cache = ap (λ (b : Book). b.cache) e.is
          ∙ (λ i. with_state mid.cache c.key (record (emptied c (state_of mid.cache c.key)) { block = none i; unit = back i }));
      deferred = ap (λ (b : Book). b.space.deferred) e.is;
    }

by_moves : (mid next : Book) (c : Change) (unit : ℕ) (m : Moves segment_units mid c next) → m.unit ≡ unit → Served mid c unit next
by_moves mid next c unit m same =
    let some = sym m.next in
    record {
      directory = ap (λ (b : Book). b.directory) m.is ∙ (λ i. in_front (next_entry c.hash (same i) (some i)) (without_entry c.old mid.directory));
      cache = ap (λ (b : Book). b.cache) m.is
          ∙ put_again mid.cache c.key (emptied c (state_of mid.cache c.key)) (record (emptied c (state_of mid.cache c.key)) { block = Some m.packed; unit = m.unit })
          ∙ (λ i. with_state mid.cache c.key (record (emptied c (state_of mid.cache c.key)) { block = some i; unit = same i }));
      deferred = ap (λ (b : Book). b.space.deferred) m.is;
    }

-- what is known of the book when a change has come
pub record IsEntered (c : Change) (unit : ℕ) (now then : KeptBook) : Type 0 where
  pub place : then.place ≡ now.place
  pub runs : then.space ≡ left_runs (state_of now.cache c.key) c.old now.space
  pub entries : by_slot then.directory ≡ come_entries (next_entry c.hash unit c.next) (left_entries c.old (by_slot now.directory))
  pub room : (es : List Entry) → HasRoomFor now.directory (in_front (next_entry c.hash unit c.next) es) → HasRoomFor then.directory es
  pub state : then.cache ≡ with_state now.cache c.key (next_state c unit (state_of now.cache c.key))

module _ (before : Waiting) (new mid : Book) (c : Change) (cs : List Change) (unit : ℕ) (units : List ℕ) (now : KeptBook)
    (coming : Coming before new mid (c ∷ cs) (unit ∷ units) now) where
  can : IsChange mid c
  can = coming.are.each c (inl refl)

  abbrev earlier : Option Pending
  earlier = state_of mid.cache c.key

  record Next : Type 0 where
    book : Book
    is : serve segment_units mid c ≡ Ok book
    rest : serve_all segment_units book cs ≡ Ok new

  next_by : (r : Result Book ℕ) → serve segment_units mid c ≡ r → after_served r (λ b. serve_all segment_units b cs) ≡ Ok new → Next
  next_by (Err exp) is e = absurd (cc e)
  next_by (Ok b) is e = record { book = b; is = is; rest = e }

  next : Next
  next = next_by (serve segment_units mid c) refl coming.served

  abbrev new_mid : Book
  new_mid = next.book

  new_formed : IsWellFormed segment_units new_mid
  new_formed = serve_formed place_laws segment_units mid c coming.formed can new_mid next.is

  on_each : (d : Change) → In d cs → IsChange new_mid d
  on_each d a = carries place_laws segment_units mid c coming.formed can new_mid d (coming.are.each d (inr a)) (coming.are.keys.0 d a) (coming.are.entries.0 d a) next.is

  -- ---- the unit

  same_state : state_of new.cache c.key ≡ state_of new_mid.cache c.key
  same_state = others_kept place_laws cs new_mid new c.key new_formed on_each coming.are.keys.1 coming.are.entries.1
      (λ d a. flipped d a) next.rest
    where
      flipped : (d : Change) → In d cs → bytes_eq d.key c.key ≡ false
      flipped d a = flips d.key c.key ∙ coming.are.keys.0 d a

  served : Served mid c unit new_mid
  served = ⊎_elim
      (λ e. by_empties mid new_mid c unit (coming.units_are.0.none e.next) e)
      (λ m. by_moves mid new_mid c unit m
      (ap unit_of (sym (last_state (with_state mid.cache c.key (emptied c earlier)) c.key (record (emptied c earlier) { block = Some m.packed; unit = m.unit })))
      ∙ ap (λ (b : Book). unit_of (state_of b.cache c.key)) (sym m.is) ∙ ap unit_of (sym same_state) ∙ ap unit_of coming.units_are.0.state))
      (serve_ways place_laws segment_units mid c coming.formed can new_mid next.is)

  -- ---- the directory

  abbrev slots : BySlot
  slots = by_slot now.directory

  -- the old entry is there
  old_there : (e : Entry) → c.old ≡ Some e → In e mid.directory
  old_there e is = (leaves mid c e coming.formed.order coming.formed.distinct can is).there

  left_same : (o : Option Entry) → c.old ≡ o → SameMembers (entries_in (left_entries o slots)) (without_entry o mid.directory)
  left_same None is = coming.directory
  left_same (Some e) is = record {
    there = λ x a.
        let r = in_removed slots e x a in
        let was = coming.directory.there x r.0 in
        entry_stays (Some e) mid.directory x was (λ f has same.
        let one : e ≡ f = cc has in
        r.1 (same_unit mid.directory x e coming.formed.order.entries was (old_there e is) (same ∙ ap (λ (y : Entry). y.unit) (sym one))));
    back = λ x a. removed_other slots e x coming.slots.units (coming.directory.back e (old_there e is))
        (coming.directory.back x (entry_was (Some e) mid.directory x a)) (λ same. entry_left e mid.directory x a (ap (λ (y : Entry). y.unit) same));
  }

  left_directory : (o : Option Entry) → IsDirectory (left_entries o slots)
  left_directory None = coming.slots
  left_directory (Some e) = removed_directory slots e.hash e.unit coming.slots

  come_same : (o : Option Entry) (b : BySlot) (es : List Entry) → 1 ≤ length b → SameMembers (entries_in b) es
      → SameMembers (entries_in (come_entries o b)) (in_front o es)
  come_same None b es some same = same
  come_same (Some e) b es some same = record {
    there = λ x a. ⊎_elim (λ new. inl new) (λ old. inr (same.there x old)) (in_added b e x a);
    back = λ x a. ⊎_elim
        (λ new. subst (λ y. In y (entries_in (with_entry b e))) new (added_new b e some))
        (λ old. added_old b e x (same.back x old))
        a;
  }

  come_directory : (o : Option Entry) (b : BySlot) → IsDirectory b → IfSome o (λ e. LacksUnit b e.unit) → IsDirectory (come_entries o b)
  come_directory None b d lacks = d
  come_directory (Some e) b d lacks = added_directory b e d lacks

  -- no entry that stays has the unit of the new one
  lacks_by : (o : Option Entry) → next_entry c.hash unit c.next ≡ o → IfSome o (λ e. LacksUnit (left_entries c.old slots) e.unit)
  lacks_by None is = tt
  lacks_by (Some e) is = λ x a same.
      let apart = subst (λ (es : List Entry). Pairs (λ (f g : Entry). f.unit ≡ g.unit → ⊥) es)
      (served.directory ∙ ap (λ o. in_front o (without_entry c.old mid.directory)) is) other_units in
      apart.0 x ((left_same c.old refl).there x a) (sym same)
    where
      other_units : Pairs (λ (f g : Entry). f.unit ≡ g.unit → ⊥) new_mid.directory
      other_units = pairs_also MeetsNot (λ (f g : Entry). f.unit ≡ g.unit → ⊥) new_mid.directory
          (λ x y a b apart same. not_apart (entry_run x) (entry_run y) same apart) new_formed.order.entries

  lacks : IfSome (next_entry c.hash unit c.next) (λ e. LacksUnit (left_entries c.old slots) e.unit)
  lacks = lacks_by (next_entry c.hash unit c.next) refl

  -- ---- few entries

  few : length (entries_in (left_entries c.old slots)) < 2 ^ 32 - 1
  few = omega (arith, few_units (segment_units * 8000) (entries_in (left_entries c.old slots)) (left_directory c.old).units below)
    where
      below : (e : Entry) → In e (entries_in (left_entries c.old slots)) → e.unit < segment_units * 8000
      below e a =
          let there = entry_was c.old mid.directory e ((left_same c.old refl).there e a) in
          let r = coming.formed.parted.taken_runs (entry_run e) (entry_taken mid coming.formed.order e there) in
          let ends = r.ends in
          let most = coming.formed.order.at_most in
          let few = allowed_most mid.place.head coming.formed.order.header in
          let some = pow_pos e.exp in
          let less : segment_units * mid.space.segments ≤ segment_units * 8000 = mul-le segment_units mid.space.segments segment_units 8000 (omega arith) (omega (arith, most, few)) in
          omega (arith, ends, some, less)

  -- ---- the run that stands in the file

  later_deferred : (r : Run) → In r new_mid.space.deferred → In r new.space.deferred
  later_deferred r there = (all_kept segment_units
      (λ x. IsWellFormed segment_units x × In r x.space.deferred) IsChange
      (λ x y d kept may is. (
        serve_formed place_laws segment_units x d kept.0 may y is,
        deferred_stays x d kept.0 may y is kept.1,
      ))
      (λ x y d f kept may more keys olds is. carries place_laws segment_units x d kept.0 may y f more keys olds is)
      cs new_mid new (new_formed, there) on_each coming.are.keys.1 coming.are.entries.1 next.rest).1
    where
      more_deferred : (s : Option Pending) (o : Option Entry) (runs : List Run) → In r runs → In r (with_deferred s o runs)
      more_deferred (Some s) o runs a = a
      more_deferred None None runs a = a
      more_deferred None (Some e) runs a = append_in runs (entry_run e ∷ []) r (inl a)

      deferred_stays : (x : Book) (d : Change) → IsWellFormed segment_units x → IsChange x d → (y : Book) → serve segment_units x d ≡ Ok y
          → In r x.space.deferred → In r y.space.deferred
      deferred_stays x d formed may y is a =
          let more = more_deferred (state_of x.cache d.key) d.old x.space.deferred a in ⊎_elim
          (λ e. subst (λ (b : Book). In r b.space.deferred) (sym e.is) more)
          (λ m. subst (λ (b : Book). In r b.space.deferred) (sym m.is) more)
          (serve_ways place_laws segment_units x d formed may y is)

  taken_by : (o : Option Entry) → c.old ≡ o → earlier ≡ None → IfSome o (λ e. In (entry_run e) now.space.taken)
  taken_by None is none = tt
  taken_by (Some e) is none =
      let own = entry_taken mid coming.formed.order e (old_there e is) in
      let deferred : In (entry_run e) new_mid.space.deferred =
      subst (λ rs. In (entry_run e) rs) (sym served.deferred) (rw none (rw is (append_in mid.space.deferred (entry_run e ∷ []) (entry_run e) (inr (inl refl))))) in
      let held = coming.held.back (entry_run e) (append_in new.space.taken new.space.deferred (entry_run e) (inr (later_deferred (entry_run e) deferred))) in ⊎_elim
      (λ taken. taken)
      (λ later. absurd (not_apart (entry_run e) (entry_run e) refl
      (coming.formed.parted.beside (entry_run e) (entry_run e) own (coming.deferred.there (entry_run e) later))))
      (in_append now.space.taken now.space.deferred (entry_run e) held)

  -- ---- what the change needs

  now_earlier : state_of now.cache c.key ≡ earlier
  now_earlier = ap (λ w. state_of w c.key) coming.cache

  pub may_enter : MayEnter now c unit
  may_enter = record {
    taken = λ none. taken_by c.old refl (sym now_earlier ∙ none);
    spare = omega (arith, coming.spare);
    slots = omega (arith, coming.slots.many, length-by_slot now.directory);
    room = (new_entries cs units, coming.room);
    lacks = lacks;
    few = few;
  }

  -- ---- the runs then

  record Runs (s : SpaceState) : Type 0 where
    segments : s.segments ≡ now.space.segments
    held : SameMembers (space_held s) (space_held now.space)
    deferred : SameMembers s.deferred (with_deferred earlier c.old mid.space.deferred)
    parted : IsParted s
    spare : now.space.spare ≤ s.spare + 1

  runs_by : (s : Option Pending) (o : Option Entry) → earlier ≡ s → c.old ≡ o → Runs (left_runs s o now.space)
  runs_by (Some s) o has is = record {
    segments = refl;
    held = same_self (space_held now.space);
    deferred = rw has coming.deferred;
    parted = coming.parted;
    spare = omega arith;
  }
  runs_by None None has is = record {
    segments = refl;
    held = same_self (space_held now.space);
    deferred = rw has (rw is coming.deferred);
    parted = coming.parted;
    spare = omega arith;
  }
  runs_by None (Some e) has is =
      let taken : In (entry_run e) now.space.taken = subst (λ o. IfSome o (λ x. In (entry_run x) now.space.taken)) is (taken_by c.old refl has) in
      record {
        segments = refl;
        held = held_after_deferring now.space (entry_run e) taken;
        deferred = rw has (rw is (same_append now.space.deferred (entry_run e ∷ []) mid.space.deferred (entry_run e ∷ [])
            coming.deferred (same_self (entry_run e ∷ []))));
        parted = parted_deferring now.space (entry_run e) coming.parted taken;
        spare = omega arith;
      }

  -- ---- all of it

  pub comes_more : (then : KeptBook) → IsEntered c unit now then → (m : Book) × Coming before new m cs units then
  comes_more then e =
      let runs = subst (λ (s : SpaceState). Runs s) (sym (e.runs ∙ ap (λ s. left_runs s c.old now.space) now_earlier)) (runs_by earlier c.old refl refl) in
      let left = left_directory c.old in
      let some : 1 ≤ length (left_entries c.old slots) = omega (arith, left.many) in (
        new_mid,
        record {
          formed = new_formed;
          are = record { each = on_each; keys = coming.are.keys.1; entries = coming.are.entries.1 };
          served = next.rest;
          units_are = coming.units_are.1;
          place = e.place ∙ coming.place ∙ sym (same_place place_laws segment_units mid c coming.formed can new_mid next.is);
          segments = runs.segments ∙ coming.segments;
          held = same_through (space_held then.space) (space_held now.space) (book_held new.space) runs.held coming.held;
          deferred = subst (λ rs. SameMembers then.space.deferred rs) (sym served.deferred) runs.deferred;
          parted = runs.parted;
          spare = omega (arith, coming.spare, runs.spare);
          directory = subst (λ es. SameMembers (entries_in (by_slot then.directory)) es) (sym served.directory)
              (subst (λ b. SameMembers (entries_in b) (in_front (next_entry c.hash unit c.next) (without_entry c.old mid.directory))) (sym e.entries)
              (come_same (next_entry c.hash unit c.next) (left_entries c.old slots) (without_entry c.old mid.directory) some (left_same c.old refl)));
          slots = subst (λ b. IsDirectory b) (sym e.entries) (come_directory (next_entry c.hash unit c.next) (left_entries c.old slots) left lacks);
          room = e.room (new_entries cs units) coming.room;
          cache = e.state ∙ (λ i. with_state (coming.cache i) c.key (next_state c unit (state_of (coming.cache i) c.key))) ∙ sym served.cache;
        },
      )

-- ---- by the place of its unit

-- there is a unit for the next change
unit_there : (before : Waiting) (new mid : Book) (c : Change) (cs : List Change) (units : List ℕ) (now : KeptBook) (place : ℕ)
    → Coming before new mid (c ∷ cs) (drop place units) now → place < length units
unit_there before new mid c cs units now place coming = ⊎_elim
    (λ (less : place < length units). less)
    (λ (past : length units ≤ place). absurd (subst (λ us. HaveUnits before new.cache (c ∷ cs) us) (drop_all place units past) coming.units_are))
    (cases_lt place (length units))

next_unit : (before : Waiting) (new mid : Book) (c : Change) (cs rest : List Change) (units : List ℕ) (now : KeptBook) (place : ℕ) → rest ≡ c ∷ cs
    → Coming before new mid rest (drop place units) now → Coming before new mid (c ∷ cs) (get_or units place 0 ∷ drop (place + 1) units) now
next_unit before new mid c cs rest units now place same coming =
    let own = subst (λ l. Coming before new mid l (drop place units) now) same coming in
    subst (λ us. Coming before new mid (c ∷ cs) us now) (drop_more units place 0 (unit_there before new mid c cs units now place own)) own

pub enters_at : (before : Waiting) (new mid : Book) (c : Change) (cs rest : List Change) (units : List ℕ) (now : KeptBook) (place : ℕ) → rest ≡ c ∷ cs
    → Coming before new mid rest (drop place units) now → MayEnter now c (get_or units place 0)
enters_at before new mid c cs rest units now place same coming =
    may_enter before new mid c cs (get_or units place 0) (drop (place + 1) units) now (next_unit before new mid c cs rest units now place same coming)

pub entered_at : (before : Waiting) (new mid : Book) (c : Change) (cs rest : List Change) (units : List ℕ) (now then : KeptBook) (place : ℕ) → rest ≡ c ∷ cs
    → Coming before new mid rest (drop place units) now → IsEntered c (get_or units place 0) now then
    → (next : Book) × Coming before new next cs (drop (place + 1) units) then
entered_at before new mid c cs rest units now then place same coming entered =
    comes_more before new mid c cs (get_or units place 0) (drop (place + 1) units) now
    (next_unit before new mid c cs rest units now place same coming) then entered
