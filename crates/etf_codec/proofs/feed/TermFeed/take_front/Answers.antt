use Rattle.std.proofs.Common.{ℕ, ◌+◌, ◌-◌, ◌≤◌, List, length, Ok, Err, refl, ap, sym, subst, arith, length-drop}
use Rattle.std.proofs.lemmas.List.{length-take}
use Rattle.feed_model.specs.declared.fed.Fed.TheVariants.{Term}
use Rattle.etf_model.specs.SpellingFeed.{SpellingFeed, longest, front_of, spellings}
use Rattle.feed_model.specs.Feed.{Gives}
use Rattle.etf_model.specs.Answers.{Answers}
use Rattle.etf_model.specs.Spelling.{spelling}
use Rattle.etf_codec.specs.TermReader.{IsFresh, ReaderReads}
use Rattle.etf_codec.proofs.FeedSteps.{fresh_order, placed, term_between, term_front, fault_answers, short_order}
use Rattle.etf_codec.proofs.feed.TermFeed.take_front.Goals as goal

pub overflow_sub-length : goal.overflow_sub-length
overflow_sub-length c =
    let a = c.self.inside in
    let position =
    placed a c.new-cursor.result _ _ _ _ c.new-cursor.ensures c.replace-read.ensures.value c.min-end.ensures c.len.ensures.value c.as_slice.ensures in
    let between = term_between a c.self.invariant c.replace-reader.result c.replace-reader.ensures.value c.new-cursor.result position c.in-Ok.term
    c.read.new.cursor c.in-Ok.ensures in
    omega (arith, between.offset, c.offset.ensures)

pub advance-requires : goal.advance-requires
advance-requires c =
    let a = c.self.inside in
    let position =
    placed a c.new-cursor.result _ _ _ _ c.new-cursor.ensures c.replace-read.ensures.value c.min-end.ensures c.len.ensures.value c.as_slice.ensures in
    let front = term_front a c.self.invariant c.replace-reader.result c.replace-reader.ensures.value c.new-cursor.result position c.in-Ok.term c.read.new.cursor
    (c.offset.result - a.offset) c.in-Ok.ensures
    (ap (λ (n : ℕ). n - a.offset) c.offset.ensures) in
    omega (arith, front.fits, length-take longest a.left.items)

pub invariant_of-self : goal.invariant_of-self
invariant_of-self c =
    let a = c.self.inside in
    let position =
    placed a c.new-cursor.result _ _ _ _ c.new-cursor.ensures c.replace-read.ensures.value c.min-end.ensures c.len.ensures.value c.as_slice.ensures in
    let front = term_front a c.self.invariant c.replace-reader.result c.replace-reader.ensures.value c.new-cursor.result position c.in-Ok.term c.read.new.cursor
    (c.offset.result - a.offset) c.in-Ok.ensures
    (ap (λ (n : ℕ). n - a.offset) c.offset.ensures) in
    let fits : c.offset.result - a.offset ≤ length a.left.items = omega (arith, front.fits, length-take longest a.left.items) in
    fresh_order (record a {
      left = c.advance.new.self;
      offset = a.offset + (c.offset.result - a.offset);
      reader = c.replace-reader.new.dest;
      read = c.replace-read.new.dest;
    })
    (subst IsFresh (sym c.replace-reader.ensures.after) c.new.ensures) c.replace-read.ensures.after
    (omega (arith, fits, c.self.invariant.short, ap length c.advance.ensures.items, length-drop (c.offset.result - a.offset) a.left.items))

pub invariant_of-self-in-Short : goal.invariant_of-self-in-Short
invariant_of-self-in-Short c =
    let a = c.self.inside in
    let position =
    placed a c.new-cursor.result _ _ _ _ c.new-cursor.ensures c.replace-read.ensures.value c.min-end.ensures c.len.ensures.value c.as_slice.ensures in
    let on =
    subst (λ fault. ReaderReads c.replace-reader.result c.read.new.self c.new-cursor.result c.read.new.cursor (Err fault)) c.in-Short.is c.in-Err.ensures in
    short_order a c.self.invariant c.replace-reader.result c.replace-reader.ensures.value c.new-cursor.result position c.read.new.self c.read.new.cursor
    (c.offset-in-Short.result - a.offset)
    (on.1 refl).0 (on.1 refl).1 (ap (λ (n : ℕ). n - a.offset) c.offset-in-Short.ensures)

pub invariant_of-self-in-Err : goal.invariant_of-self-in-Err
invariant_of-self-in-Err c =
    let a = c.self.inside in
    fresh_order (record a { reader = c.replace-reader.new.dest; read = c.replace-read.new.dest })
    (subst IsFresh (sym c.replace-reader.ensures.after) c.new.ensures) c.replace-read.ensures.after c.self.invariant.short

pub returns-in-Ok-clause-term : goal.returns-in-Ok-clause-term
returns-in-Ok-clause-term c =
    let a = c.self.inside in
    let position =
    placed a c.new-cursor.result _ _ _ _ c.new-cursor.ensures c.replace-read.ensures.value c.min-end.ensures c.len.ensures.value c.as_slice.ensures in
    let front = term_front a c.self.invariant c.replace-reader.result c.replace-reader.ensures.value c.new-cursor.result position c.in-Ok.term c.read.new.cursor
    (c.offset.result - a.offset) c.in-Ok.ensures
    (ap (λ (n : ℕ). n - a.offset) c.offset.ensures) in
    subst (λ (old : SpellingFeed). Gives spellings old
    (record { left = c.advance.new.self.items; offset = a.offset + (c.offset.result - a.offset); finished = a.finished; fault = a.fault })
    (Ok (Term c.in-Ok.term))) c.self.view_is (
      c.offset.result - a.offset,
      front,
      ap (λ (l : List ℕ). record { left = l; offset = a.offset + (c.offset.result - a.offset); finished = a.finished; fault = a.fault })
          c.advance.ensures.items,
    )

pub returns-in-Short-clause-fault : goal.returns-in-Short-clause-fault
returns-in-Short-clause-fault c =
    let a = c.self.inside in
    let position =
    placed a c.new-cursor.result _ _ _ _ c.new-cursor.ensures c.replace-read.ensures.value c.min-end.ensures c.len.ensures.value c.as_slice.ensures in
    subst (λ (old : SpellingFeed). Answers spelling old.offset (front_of old) (Err c.in-Err.fault)) c.self.view_is
    (fault_answers a c.self.invariant c.replace-reader.result c.replace-reader.ensures.value c.new-cursor.result position c.in-Err.fault c.in-Err.ensures.0)

pub returns-in_default : goal.returns-in_default
returns-in_default c =
    let a = c.self.inside in
    let position =
    placed a c.new-cursor.result _ _ _ _ c.new-cursor.ensures c.replace-read.ensures.value c.min-end.ensures c.len.ensures.value c.as_slice.ensures in
    record {
      term = tt;
      fault = subst (λ (old : SpellingFeed). Answers spelling old.offset (front_of old) (Err c.in-Err.fault)) c.self.view_is
          (fault_answers a c.self.invariant c.replace-reader.result c.replace-reader.ensures.value c.new-cursor.result position c.in-Err.fault
          c.in-Err.ensures.0);
      stays = c.self.view_is;
    }
