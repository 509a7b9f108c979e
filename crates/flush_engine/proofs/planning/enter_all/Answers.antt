use Rattle.std.proofs.Common.{◌≡◌, ◌+◌, ℕ, List, [], ◌∙◌, sym, subst}
use Rattle.std.proofs.lemmas.List.{nil_from_length}
use Rattle.write_cache.specs.Waiting.{Waiting}
use Rattle.book_model.specs.declared.change.Change.{Change}
use Rattle.book_model.specs.Book.{Book}
use Rattle.flush_engine.specs.declared.book.Book.{Book as KeptBook}
use Rattle.flush_engine.specs.Coming.{Coming}
use Rattle.flush_engine.proofs.Entered.{IsEntered, enters_at, entered_at}
use Rattle.flush_engine.proofs.Planned.{comes_to, comes_formed}
use Rattle.flush_engine.proofs.planning.enter_all.Invariants.{Goes}
use Rattle.flush_engine.proofs.planning.enter_all.Goals as goal

pub enter-requires : goal.enter-requires
enter-requires c =
    let r = c.requires in
    let led = c.loop-change.invariant.1.1.comes r.0 r.1 r.2 r.3 in
    enters_at r.0 r.1 led.0 c.in-Some.change c.next.new.self.rest.items _ c.args.units.now c.loop-change.book c.loop-change.place
    c.in-Some.ensures.steps.0 led.1

pub loop-change-preserved : goal.loop-change-preserved
loop-change-preserved c =
    let is : IsEntered c.in-Some.change _ c.loop-change.book c.enter.new.book = record {
      place = c.enter.ensures.place;
      runs = c.enter.ensures.runs;
      entries = c.enter.ensures.entries;
      room = c.enter.ensures.room;
      state = c.in_ok-enter.ensures.state;
    } in
    let goes : Goes c.args.changes c.next.new.self.rest.items c.args.units.now (c.loop-change.place + 1) c.args.book.now c.enter.new.book = record {
      comes = λ before new mid coming.
          let led = c.loop-change.invariant.1.1.comes before new mid coming in
          entered_at before new led.0 c.in-Some.change c.next.new.self.rest.items _ c.args.units.now c.loop-change.book c.enter.new.book c.loop-change.place
          c.in-Some.ensures.steps.0 led.1 is;
      slots = c.enter.ensures.slots ∙ c.loop-change.invariant.1.1.slots;
    } in
    (tt, (tt, goes))

-- none is left
none_left : (before : Waiting) (new mid : Book) (rest : List Change) (units : List ℕ) (now : KeptBook) → rest ≡ [] → Coming before new mid rest units now
    → Coming before new mid [] units now
none_left before new mid rest units now none coming = subst (λ l. Coming before new mid l units now) none coming

pub returns-clause-alike : goal.returns-clause-alike
returns-clause-alike c = λ before new mid coming.
    let led = c.loop-change.invariant.1.1.comes before new mid coming in
    comes_to before new led.0 _ c.loop-change.book (none_left before new led.0 _ _ c.loop-change.book (nil_from_length _ (sym c.loop-change.change-iterator.rest.ok.0 ∙ c.in-None.ensures.steps.0)) led.1)

pub returns-clause-formed : goal.returns-clause-formed
returns-clause-formed c =
    let r = c.requires in
    let led = c.loop-change.invariant.1.1.comes r.0 r.1 r.2 r.3 in
    comes_formed r.0 r.1 led.0 _ c.loop-change.book (none_left r.0 r.1 led.0 _ _ c.loop-change.book (nil_from_length _ (sym c.loop-change.change-iterator.rest.ok.0 ∙ c.in-None.ensures.steps.0)) led.1)
