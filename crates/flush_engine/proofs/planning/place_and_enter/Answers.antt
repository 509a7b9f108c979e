use Rattle.std.proofs.Common.{◌≡◌, ◌≢◌, ℕ, suc, List, [], ◌∷◌, length, max, Result, Err, ◌∙◌, ap, sym, subst, refl, arith}
use Rattle.std.proofs.lemmas.Result.{err_from_is_err_and}
use Rattle.space_model.specs.Sizes.{segment_units}
use Rattle.write_cache.specs.Waiting.{Waiting}
use Rattle.buddy_space.specs.SpaceState.{SpaceState, IsParted, with_spare}
use Rattle.slot_table.specs.BySlot.{BySlot, by_slot, HasRoomFor, IsDirectory}
use Rattle.book_model.specs.declared.change.Change.{Change}
use Rattle.book_model.specs.Book.{Book, IsWellFormed}
use Rattle.book_model.specs.Planning.{AreChanges}
use Rattle.flush_engine.specs.declared.book.Book.{Book as KeptBook}
use Rattle.flush_engine.specs.declared.fault.PlanFault.{PlanFault}
use Rattle.flush_engine.specs.declared.fault.PlanFault.TheVariants.{Full, Memory}
use Rattle.flush_engine.specs.Meaning.{book_of, IsPlanned}
use Rattle.flush_engine.specs.Placing.{in_segments, Places, all_placed}
use Rattle.flush_engine.specs.Ahead.{HaveUnits}
use Rattle.flush_engine.specs.Coming.{new_entries, Coming}
use Rattle.flush_engine.proofs.Parts.{well_formed, may_be_placed}
use Rattle.flush_engine.proofs.Planned.{is_served, is_full, HasRoomMade, comes_first, planned_ok, planned_full}
use Rattle.flush_engine.proofs.planning.place_and_enter.Goals as goal

pub place_all-requires-clause-changes : goal.place_all-requires-clause-changes
place_all-requires-clause-changes c = may_be_placed c.args.book.now c.args.changes c.requires.order c.requires.changes

-- ---- a command that is full

abbrev err_of : PlanFault → Result Unit PlanFault
err_of fault = Err fault

abbrev with_space : KeptBook → SpaceState → KeptBook
with_space b s = record b { space = s }

-- what is told where a place is missing
abbrev Tells : KeptBook → List Change → SpaceState → PlanFault → Type 0
Tells old changes s fault = (exp : ℕ) → fault ≡ Full exp
    → (all_placed old.place.head.max_segments old.cache old.space changes ≡ Err exp) × (s ≡ in_segments old.place.head.max_segments old.space)

err_planned : (old : KeptBook) (changes : List Change) (s : SpaceState) (fault : PlanFault) → IsWellFormed segment_units (book_of old)
    → AreChanges (book_of old) changes → Tells old changes s fault → err_of fault ≢ err_of Memory → IsPlanned old (with_space old s) changes (err_of fault)
err_planned old changes s Memory formed are tells not = absurd (not refl)
err_planned old changes s (Full exp) formed are tells not =
    let t = tells exp refl in
    planned_full old (with_space old s) changes exp (is_full old changes exp formed are t.0) formed
    (record { place = refl; space = t.1; directory = refl; cache = refl })

err_answer : (old : KeptBook) (changes : List Change) (s : SpaceState) (fault : PlanFault) (result : Result Unit PlanFault)
    → IsWellFormed segment_units (book_of old) → AreChanges (book_of old) changes → Tells old changes s fault → result ≡ err_of fault
    → result ≢ err_of Memory → IsPlanned old (with_space old s) changes result
err_answer old changes s fault result formed are tells is not =
    subst (λ r. IsPlanned old (with_space old s) changes r) (sym is)
    (err_planned old changes s fault formed are tells (λ memory. not (is ∙ memory)))

abbrev err_in : {T : Type 0} → PlanFault → Result T PlanFault
err_in fault = Err fault

pub returns-in_err-units-clause-planned : goal.returns-in_err-units-clause-planned
returns-in_err-units-clause-planned c = λ not.
    let formed = well_formed c.args.book.now c.requires.order c.segments-segments.ensures.parted c.len-keys.ensures.distinct in
    let is = err_from_is_err_and c.from_residual.result c.from_residual.ensures.1 in
    err_answer c.args.book.now c.args.changes c.place_all.new.space c.in_err-units.field-0.0 c.from_residual.result formed c.requires.changes
    (λ exp full. c.in_err-units.ensures.full exp (ap err_in full)) (is.1 ∙ ap err_of is.2) not

-- ---- a command whose changes all have their places

same_length : (before : Waiting) (new : Book) (changes : List Change) (units : List ℕ) → HaveUnits before new.cache changes units → length units ≡ length changes
same_length before new [] [] h = refl
same_length before new [] (u ∷ us) h = absurd h
same_length before new (c ∷ cs) [] h = absurd h
same_length before new (c ∷ cs) (u ∷ us) h = ap (λ n. suc n) (same_length before new cs us h.1)

abbrev places : SpaceState → List ℕ → Places
places s units = record { space = s; units = units }

made_by : (old now : KeptBook) (changes : List Change) (s : SpaceState) (units : List ℕ) → now.place ≡ old.place → now.cache ≡ old.cache
    → by_slot now.directory ≡ by_slot old.directory → now.space ≡ with_spare (max s.spare (length changes)) s
    → HasRoomFor now.directory (new_entries changes units) → IsParted now.space → IsDirectory (by_slot old.directory)
    → HasRoomMade old now changes (places s units)
made_by old now changes s units place cache entries space room parted slots = record {
  place = place;
  cache = cache;
  entries = entries;
  spare = max s.spare (length changes);
  enough = omega arith;
  space = space;
  room = room;
  parted = parted;
  slots = subst (λ (b : BySlot). IsDirectory b) (sym entries) slots;
}

pub make_room-requires : goal.make_room-requires
make_room-requires c =
    let formed = well_formed c.args.book.now c.requires.order c.segments-segments.ensures.parted c.len-keys.ensures.distinct in
    let s = is_served c.args.book.now c.args.changes (places c.place_all.new.space c.in_ok-units.units.items) formed c.requires.changes c.in_ok-units.ensures.ok in
    ap length c.deref.ensures.value ∙ same_length c.args.book.now.cache s.new c.args.changes c.in_ok-units.units.items s.units_are

pub enter_all-requires : goal.enter_all-requires
enter_all-requires c =
    let formed = well_formed c.args.book.now c.requires.order c.segments-segments.ensures.parted c.len-keys.ensures.distinct in
    let units = c.in_ok-units.units.items in
    let s = is_served c.args.book.now c.args.changes (places c.place_all.new.space c.in_ok-units.units.items) formed c.requires.changes c.in_ok-units.ensures.ok in
    let made = made_by c.args.book.now c.make_room.new.book c.args.changes c.place_all.new.space c.in_ok-units.units.items c.make_room.ensures.place c.make_room.ensures.cache
    c.make_room.ensures.entries c.in_ok-make_room.ensures.spare
    (subst (λ us. HasRoomFor c.make_room.new.book.directory (new_entries c.args.changes us)) c.deref.ensures.value c.in_ok-make_room.ensures.room)
    c.segments-placed.ensures.parted c.slots-slots.ensures.directory in
    let coming = comes_first c.args.book.now c.make_room.new.book c.args.changes (places c.place_all.new.space c.in_ok-units.units.items) formed c.requires.changes s made in (
      c.args.book.now.cache,
      s.new,
      book_of c.args.book.now,
      subst (λ us. Coming c.args.book.now.cache s.new (book_of c.args.book.now) c.args.changes us c.make_room.new.book) (sym c.deref-2.ensures.value) coming,
    )

pub returns-clause-planned : goal.returns-clause-planned
returns-clause-planned c = λ not.
    let formed = well_formed c.args.book.now c.requires.order c.segments-segments.ensures.parted c.len-keys.ensures.distinct in
    let s = is_served c.args.book.now c.args.changes (places c.place_all.new.space c.in_ok-units.units.items) formed c.requires.changes c.in_ok-units.ensures.ok in
    let made = made_by c.args.book.now c.make_room.new.book c.args.changes c.place_all.new.space c.in_ok-units.units.items c.make_room.ensures.place c.make_room.ensures.cache
    c.make_room.ensures.entries c.in_ok-make_room.ensures.spare
    (subst (λ us. HasRoomFor c.make_room.new.book.directory (new_entries c.args.changes us)) c.deref.ensures.value c.in_ok-make_room.ensures.room)
    c.segments-placed.ensures.parted c.slots-slots.ensures.directory in
    let coming = comes_first c.args.book.now c.make_room.new.book c.args.changes (places c.place_all.new.space c.in_ok-units.units.items) formed c.requires.changes s made in
    planned_ok c.args.book.now c.enter_all.new.book c.args.changes (places c.place_all.new.space c.in_ok-units.units.items) formed s
    (c.in_ok-enter_all.ensures.alike c.args.book.now.cache s.new (book_of c.args.book.now)
    (subst (λ us. Coming c.args.book.now.cache s.new (book_of c.args.book.now) c.args.changes us c.make_room.new.book) (sym c.deref-2.ensures.value) coming))
    c.in_ok-enter_all.ensures.formed
