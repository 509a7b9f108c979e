use Rattle.std.proofs.Common.{◌≡◌, ◌<◌, length, get_or, subst}
use Rattle.file_model.specs.declared.entry.Entry.{Entry}
use Rattle.book_model.specs.Planning.{IsStanding}
use Rattle.flush_engine.specs.Meaning.{book_of}
use Rattle.book_cases.proofs.Rest.{get_in}
use Rattle.book_cases.proofs.old.standing_entry.Goals as goal

pub returns-then-not-is_pending : goal.returns-then-not-is_pending
returns-then-not-is_pending c e is =
    let entries = c.entries_of-entry-items.result.now in
    let found : Entry = get_or entries c.loop-entry.entry-index (record { hash = 0; unit = 0; exp = 0; count = 0 }) in
    let same : found ≡ e = cc is in
    let there = get_in entries c.loop-entry.entry-index (record { hash = 0; unit = 0; exp = 0; count = 0 }) c.loop-entry-test.true in
    let stands : IsStanding (book_of c.args.book.now) found × (found.hash ≡ c.args.hash) = (
      record { there = (c.entries_of-entry-items.ensures.exactly.own found there).0; not_pending = c.is_pending.ensures c.if-not-is_pending.true },
      c.if-entry-hash.true,
    ) in
    subst (λ (x : Entry). IsStanding (book_of c.args.book.now) x × (x.hash ≡ c.args.hash)) same stands
