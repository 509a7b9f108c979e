-- The start of the entering of changes, its end, and what a plan says then.
use Rattle.std.proofs.Common.{◌≡◌, ◌≤◌, inl, ⊎_elim, ℕ, List, [], ◌∷◌, length, Option, Some, None, Result, Ok, Err, refl, sym, ap, ◌∙◌, subst}
use Rattle.space_model.specs.Sizes.{segment_units}
use Rattle.space_model.specs.Apart.{SameMembers, Pairs}
use Rattle.space_model.specs.Ledger.{Standing, Ledger, Placed, serve_all as serve_all_of_ledger, after_command}
use Rattle.file_model.specs.declared.block.Packed.{Packed}
use Rattle.file_model.specs.declared.entry.Entry.{Entry}
use Rattle.file_model.specs.View.{view_of}
use Rattle.write_cache.specs.declared.pending.Pending.{Pending}
use Rattle.write_cache.specs.Waiting.{Waiting, state_of}
use Rattle.buddy_space.specs.SpaceState.{SpaceState, IsParted, with_spare, held as space_held}
use Rattle.slot_table.specs.BySlot.{by_slot, entries_in, HasRoomFor, IsDirectory}
use Rattle.book_model.specs.declared.change.Change.{Change}
use Rattle.book_model.specs.Book.{Book, held as book_held, entry_run, MeetsNot, OtherUnit, IsWellFormed, IsAlike}
use Rattle.book_model.specs.Planning.{AreChanges, kept_unit, grown, serve_all, planned}
use Rattle.book_model.specs.LedgerOf.{AreStanding, ledger_of, touches_of, ledger_result}
use Rattle.book_model.specs.OfFile.{IsOf, AreChangesOf}
use Rattle.book_model.proofs.Members.{append_in, in_append, pairs_also, same_self, same_back}
use Rattle.book_model.proofs.Runs.{not_apart}
use Rattle.book_model.proofs.Served.{same_book}
use Rattle.book_model.proofs.Commands.{full_formed}
use Rattle.book_model.proofs.LedgerMoves.{all_ledger, planned_ledger}
use Rattle.book_model.proofs.OfFile.{planned_of, alike_of}
use Rattle.book_model.proofs.Alike.{alike_ledger, alike_formed, alike_self}
use Rattle.flush_engine.specs.declared.book.Book.{Book as KeptBook}
use Rattle.flush_engine.specs.declared.fault.PlanFault.{PlanFault}
use Rattle.flush_engine.specs.declared.fault.PlanFault.TheVariants.{Full}
use Rattle.flush_engine.specs.Meaning.{runs_of, book_of, IsAnswer, IsAsBefore, IsPlanned}
use Rattle.flush_engine.specs.Placing.{place_in, placed_run, Placing, block_of, giving_up, placed_at, placed_with, placed, Places, with_unit, then_placed, all_placed}
use Rattle.flush_engine.specs.Ahead.{IsAhead, HaveUnits, Matches}
use Rattle.flush_engine.specs.Coming.{new_entries, Coming}
use Rattle.flush_engine.proofs.Bridge.{place_laws, ledger_laws, bridge}
use Rattle.flush_engine.proofs.Parts.{parted_runs, other_units}

-- ---- the end

pub comes_to : (before : Waiting) (new mid : Book) (units : List ℕ) (now : KeptBook) → Coming before new mid [] units now → IsAlike new (book_of now)
comes_to before new mid units now coming =
    let same : mid ≡ new = same_book mid new coming.served in
    let deferred : SameMembers now.space.deferred new.space.deferred = subst (λ (b : Book). SameMembers now.space.deferred b.space.deferred) same coming.deferred in
    let formed : IsWellFormed segment_units new = subst (λ b. IsWellFormed segment_units b) same coming.formed in
    let parted = parted_runs now.space coming.parted in
    record {
      place = coming.place ∙ ap (λ (b : Book). b.place) same;
      segments = coming.segments;
      taken = record {
        there = λ r a. ⊎_elim
            (λ taken. taken)
            (λ later. absurd (not_apart r r refl (formed.parted.beside r r a (deferred.there r later))))
            (in_append now.space.taken now.space.deferred r (coming.held.back r (append_in new.space.taken new.space.deferred r (inl a))));
        back = λ r a. ⊎_elim
            (λ taken. taken)
            (λ later. absurd (not_apart r r refl (parted.beside r r a (deferred.back r later))))
            (in_append new.space.taken new.space.deferred r (coming.held.there r (append_in now.space.taken now.space.deferred r (inl a))));
      };
      deferred = same_back now.space.deferred new.space.deferred deferred;
      directory = subst (λ (b : Book). SameMembers b.directory (entries_in (by_slot now.directory))) same
          (same_back (entries_in (by_slot now.directory)) mid.directory coming.directory);
      cache = coming.cache ∙ ap (λ (b : Book). b.cache) same;
    }

pub comes_formed : (before : Waiting) (new mid : Book) (units : List ℕ) (now : KeptBook) → Coming before new mid [] units now
    → IsWellFormed segment_units (book_of now)
comes_formed before new mid units now coming =
    let same : mid ≡ new = same_book mid new coming.served in
    alike_formed new (book_of now) (comes_to before new mid units now coming) segment_units (subst (λ b. IsWellFormed segment_units b) same coming.formed)
    (parted_runs now.space coming.parted) (other_units now coming.slots)

-- ---- placing defers nothing

abbrev ok_places : Places → Result Places ℕ
ok_places p = Ok p

abbrev ok_placing : Placing → Result Placing ℕ
ok_placing at = Ok at

gives_up : (o : Option Entry) (s : SpaceState) → (giving_up o s).deferred ≡ s.deferred
gives_up None s = refl
gives_up (Some e) s = refl

same_places : (p q : Places) → ok_places p ≡ ok_places q → p ≡ q
same_places p q e = cc e

same_placing : (p q : Placing) → ok_placing p ≡ ok_placing q → p ≡ q
same_placing p q e = cc e

at_deferred : (old : Option Entry) (s : SpaceState) (exp : ℕ) (o : Option Placed) (at : Placing) → placed_at old s exp o ≡ Ok at → at.space.deferred ≡ s.deferred
at_deferred old s exp None at is = absurd (cc is)
at_deferred old s exp (Some place) at is =
    ap (λ (x : Placing). x.space.deferred) (sym (same_placing _ at is)) ∙ gives_up old (placed_run s exp place)

with_deferred : (most : ℕ) (old : Option Entry) (s : SpaceState) (exp : ℕ) (o : Option ℕ) (at : Placing) → placed_with most old s exp o ≡ Ok at
    → at.space.deferred ≡ s.deferred
with_deferred most old s exp (Some unit) at is = ap (λ (x : Placing). x.space.deferred) (sym (same_placing _ at is))
with_deferred most old s exp None at is = at_deferred old s exp (place_in most s exp) at is

one_deferred : (most : ℕ) (earlier : Option Pending) (s : SpaceState) (next : Option Packed) (at : Placing) → placed most earlier s next ≡ Ok at
    → at.space.deferred ≡ s.deferred
one_deferred most earlier s None at is =
    ap (λ (x : Placing). x.space.deferred) (sym (same_placing _ at is)) ∙ gives_up (block_of earlier) s
one_deferred most earlier s (Some p) at is = with_deferred most (block_of earlier) s p.exp (kept_unit earlier p.exp) at is

rest_deferred : (unit : ℕ) (r : Result Places ℕ) (s : SpaceState) (p : Places) → with_unit unit r ≡ Ok p
    → ((q : Places) → r ≡ Ok q → q.space.deferred ≡ s.deferred) → p.space.deferred ≡ s.deferred
rest_deferred unit (Err exp) s p is go = absurd (cc is)
rest_deferred unit (Ok q) s p is go = ap (λ (x : Places). x.space.deferred) (sym (same_places _ p is)) ∙ go q refl

then_deferred : (r : Result Placing ℕ) (rest : SpaceState → Result Places ℕ) (s : SpaceState) (p : Places) → then_placed r rest ≡ Ok p
    → ((at : Placing) → r ≡ Ok at → at.space.deferred ≡ s.deferred)
    → ((t : SpaceState) (q : Places) → rest t ≡ Ok q → q.space.deferred ≡ t.deferred) → p.space.deferred ≡ s.deferred
then_deferred (Err exp) rest s p is first later = absurd (cc is)
then_deferred (Ok at) rest s p is first later = rest_deferred at.unit (rest at.space) s p is (λ q e. later at.space q e ∙ first at refl)

all_deferred : (most : ℕ) (w : Waiting) (s : SpaceState) (cs : List Change) (p : Places) → all_placed most w s cs ≡ Ok p → p.space.deferred ≡ s.deferred
all_deferred most w s [] p is = ap (λ (x : Places). x.space.deferred) (sym (same_places _ p is))
all_deferred most w s (c ∷ cs) p is =
    then_deferred (placed most (state_of w c.key) s c.next) (λ next. all_placed most w next cs) s p is
    (λ at e. one_deferred most (state_of w c.key) s c.next at e)
    (λ t q e. all_deferred most w t cs q e)

-- ---- the start

ahead_self : (b : KeptBook) → IsAhead (book_of b) b.space
ahead_self b = record { segments = refl; held = same_self (space_held b.space); deferred = λ r a. a }

-- the places and the book that serves the changes, or both are full
pub matched : (old : KeptBook) (changes : List Change) → IsWellFormed segment_units (book_of old) → AreChanges (book_of old) changes
    → Matches changes old.cache (all_placed old.place.head.max_segments old.cache old.space changes) (serve_all segment_units (book_of old) changes)
matched old changes formed are = bridge (book_of old) old.space old.cache changes formed are (λ c a. refl) (ahead_self old)

-- every change has its place: so much is known of the space and the units
pub record IsServed (old : KeptBook) (changes : List Change) (p : Places) : Type 0 where
  pub new : Book
  pub served : serve_all segment_units (book_of old) changes ≡ Ok new
  pub ahead : IsAhead new p.space
  pub units_are : HaveUnits old.cache new.cache changes p.units
  pub deferred : p.space.deferred ≡ old.space.deferred

served_by : (old : KeptBook) (changes : List Change) (p : Places) (r : Result Places ℕ) (o : Result Book ℕ)
    → all_placed old.place.head.max_segments old.cache old.space changes ≡ r → serve_all segment_units (book_of old) changes ≡ o
    → Matches changes old.cache r o → r ≡ Ok p → IsServed old changes p
served_by old changes p (Ok q) (Ok new) is served m e =
    let same = same_places q p e in
    record {
      new = new;
      served = served;
      ahead = subst (λ (x : Places). IsAhead new x.space) same m.0;
      units_are = subst (λ (x : Places). HaveUnits old.cache new.cache changes x.units) same m.1;
      deferred = all_deferred old.place.head.max_segments old.cache old.space changes p (is ∙ e);
    }
served_by old changes p (Ok q) (Err exp) is served m e = absurd m
served_by old changes p (Err exp) o is served m e = absurd (cc e)

pub is_served : (old : KeptBook) (changes : List Change) (p : Places) → IsWellFormed segment_units (book_of old) → AreChanges (book_of old) changes
    → all_placed old.place.head.max_segments old.cache old.space changes ≡ Ok p → IsServed old changes p
is_served old changes p formed are is =
    served_by old changes p (all_placed old.place.head.max_segments old.cache old.space changes) (serve_all segment_units (book_of old) changes)
    refl refl (matched old changes formed are) is

full_by : (old : KeptBook) (changes : List Change) (exp : ℕ) (r : Result Places ℕ) (o : Result Book ℕ) → serve_all segment_units (book_of old) changes ≡ o
    → Matches changes old.cache r o → r ≡ Err exp → serve_all segment_units (book_of old) changes ≡ Err exp
full_by old changes exp (Err x) (Err y) served m e =
    let same : x ≡ exp = cc e in served ∙ ap (λ (z : ℕ). err_book z) (sym m ∙ same)
  where
    err_book : ℕ → Result Book ℕ
    err_book z = Err z
full_by old changes exp (Err x) (Ok new) served m e = absurd m
full_by old changes exp (Ok q) o served m e = absurd (cc e)

pub is_full : (old : KeptBook) (changes : List Change) (exp : ℕ) → IsWellFormed segment_units (book_of old) → AreChanges (book_of old) changes
    → all_placed old.place.head.max_segments old.cache old.space changes ≡ Err exp → serve_all segment_units (book_of old) changes ≡ Err exp
is_full old changes exp formed are is =
    full_by old changes exp (all_placed old.place.head.max_segments old.cache old.space changes) (serve_all segment_units (book_of old) changes)
    refl (matched old changes formed are) is

-- room was made, and nothing else has changed since
pub record HasRoomMade (old now : KeptBook) (changes : List Change) (p : Places) : Type 0 where
  pub place : now.place ≡ old.place
  pub cache : now.cache ≡ old.cache
  pub entries : by_slot now.directory ≡ by_slot old.directory
  pub spare : ℕ
  pub enough : length changes ≤ spare
  pub space : now.space ≡ with_spare spare p.space
  pub room : HasRoomFor now.directory (new_entries changes p.units)
  pub parted : IsParted now.space
  pub slots : IsDirectory (by_slot now.directory)

pub comes_first : (old now : KeptBook) (changes : List Change) (p : Places) → IsWellFormed segment_units (book_of old) → AreChanges (book_of old) changes
    → (s : IsServed old changes p) → HasRoomMade old now changes p → Coming old.cache s.new (book_of old) changes p.units now
comes_first old now changes p formed are s made = record {
  formed = formed;
  are = are;
  served = s.served;
  units_are = s.units_are;
  place = made.place;
  segments = ap (λ (x : SpaceState). x.segments) made.space ∙ s.ahead.segments;
  held = subst (λ (x : SpaceState). SameMembers (space_held x) (book_held s.new.space)) (sym made.space) s.ahead.held;
  deferred = subst (λ rs. SameMembers rs old.space.deferred) (sym (ap (λ (x : SpaceState). x.deferred) made.space ∙ s.deferred)) (same_self old.space.deferred);
  parted = made.parted;
  spare = subst (λ (x : SpaceState). length changes ≤ x.spare) (sym made.space) made.enough;
  directory = subst (λ b. SameMembers (entries_in b) (entries_in (by_slot old.directory))) (sym made.entries) (same_self (entries_in (by_slot old.directory)));
  slots = made.slots;
  room = made.room;
  cache = made.cache;
}

-- ---- what a plan says

pub planned_ok : (old new : KeptBook) (changes : List Change) (p : Places) → IsWellFormed segment_units (book_of old) → (s : IsServed old changes p)
    → IsAlike s.new (book_of new) → IsWellFormed segment_units (book_of new) → IsPlanned old new changes (Ok tt)
planned_ok old new changes p formed s alike after = record {
  before = formed;
  answer = rw s.served refl;
  alike = rw s.served alike;
  after = after;
}

pub planned_full : (old new : KeptBook) (changes : List Change) (exp : ℕ) → serve_all segment_units (book_of old) changes ≡ Err exp
    → IsWellFormed segment_units (book_of old) → IsAsBefore old new → IsPlanned old new changes (Err (Full exp))
planned_full old new changes exp full formed since =
    let grown_is : book_of new ≡ grown (book_of old) old.place.head.max_segments = λ i. record {
      place = since.place i;
      space = runs_of (since.space i);
      directory = entries_in (by_slot (since.directory i));
      cache = since.cache i;
    } in
    record {
      before = formed;
      answer = rw full refl;
      alike = rw full (subst (λ b. IsAlike (grown (book_of old) old.place.head.max_segments) b) (sym grown_is)
          (alike_self (grown (book_of old) old.place.head.max_segments)));
      after = subst (λ b. IsWellFormed segment_units b) (sym grown_is) (full_formed segment_units (book_of old) formed);
    }

units_apart : (b : Book) → IsWellFormed segment_units b → Pairs OtherUnit b.directory
units_apart b formed = pairs_also MeetsNot OtherUnit b.directory (λ x y a c apart same. not_apart (entry_run x) (entry_run y) same apart) formed.order.entries

module _ (old new : KeptBook) (changes : List Change) (result : Result Unit PlanFault) (are : AreChanges (book_of old) changes)
    (plan : IsPlanned old new changes result) where
  answer_by : (standing : List Standing) (o : Result Book ℕ) (l : Result Ledger ℕ) → ledger_result standing o ≡ l → IsAnswer o result → IsAnswer l result
  answer_by standing (Ok b) l is answer = subst (λ x. IsAnswer x result) is answer
  answer_by standing (Err exp) l is answer = subst (λ x. IsAnswer x result) is answer

  pub ledger_answered : (standing : List Standing) → AreStanding standing (book_of old)
      → IsAnswer (serve_all_of_ledger segment_units (ledger_of standing (book_of old)) (touches_of changes)) result
  ledger_answered standing stands = answer_by standing (serve_all segment_units (book_of old) changes) _
      (all_ledger place_laws ledger_laws segment_units standing changes (book_of old) (record { formed = plan.before; stands = stands }) are.each are.keys are.entries)
      plan.answer

  pub ledger_moved : (standing : List Standing) → AreStanding standing (book_of old)
      → ledger_of standing (book_of new) ≡ after_command segment_units (ledger_of standing (book_of old)) (touches_of changes)
  ledger_moved standing stands =
      alike_ledger (planned segment_units (book_of old) changes) (book_of new) plan.alike standing
      ∙ planned_ledger place_laws ledger_laws segment_units standing changes (book_of old) (record { formed = plan.before; stands = stands }) are

  pub of_its_file : (file : List ℕ) → IsOf file (book_of old) → AreChangesOf (view_of old.place.head file) (book_of old) changes → IsOf file (book_of new)
  of_its_file file of_old are_of = alike_of file (planned segment_units (book_of old) changes) (book_of new) plan.alike
      (planned_of place_laws file changes (book_of old) of_old are_of) plan.after.parted (units_apart (book_of new) plan.after)
