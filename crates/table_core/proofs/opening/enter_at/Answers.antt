use Rattle.std.proofs.Common.{◌≡◌, ◌<◌, ◌+◌, ◌++◌, ℕ, List, [], ◌∷◌, length, take, get_or, slice_get, Option, Some, Result, Ok, Err, OnOk, ◌∙◌, sym, ap, subst}
use Rattle.std.specs.Option.{option_copied}
use Rattle.std.proofs.lemmas.List.{take_more}
use Rattle.std.proofs.lemmas.Option.{slice_get-get_or}
use Rattle.file_model.specs.declared.entry.Entry.{Entry}
use Rattle.table_core.specs.Opening.{HasEntered}
use Rattle.table_core.proofs.Opened.{few_entries, runs_taken, entered_more}
use Rattle.table_core.proofs.opening.enter_at.Goals as goal

pub enter_block-requires-clause-taken : goal.enter_block-requires-clause-taken
enter_block-requires-clause-taken c = runs_taken _ _ c.args.space.now c.args.directory.now c.requires.entered

pub enter_block-requires-clause-few : goal.enter_block-requires-clause-few
enter_block-requires-clause-few c =
    few_entries _ _ c.args.space.now c.args.directory.now c.requires.entered c.segments-segments.ensures.parted c.slots-slots.ensures.directory

abbrev some_entry : Entry → Option Entry
some_entry e = Some e

-- the entries up to a place and the one there
up_to : (es : List Entry) (place : ℕ) (e : Entry) → place < length es → some_entry e ≡ slice_get es place → take place es ++ e ∷ [] ≡ take (place + 1) es
up_to es place e less is =
    let found : some_entry (get_or es place e) ≡ some_entry e = sym (slice_get-get_or es place e less) ∙ sym is in
    let same : get_or es place e ≡ e = cc found in
    ap (λ x. take place es ++ x ∷ []) (sym same) ∙ sym (take_more es place e less)

both : {T E P Q R : Type 0} (r : Result T E) → OnOk r P → OnOk r Q → (P → Q → R) → OnOk r R
both (Ok x) p q so = so p q
both (Err e) p q so = p

pub returns-clause-entered : goal.returns-clause-entered
returns-clause-entered c =
    both c.enter_block.result c.enter_block.ensures.runs c.enter_block.ensures.entries (λ runs entries.
    subst (λ l. HasEntered c.args.space.now.segments l c.enter_block.new.space c.enter_block.new.directory)
    (up_to c.args.entries.now c.args.place c.in-Some.entry.now c.requires.place (sym (ap option_copied c.in-Some.is) ∙ c.get.ensures))
    (entered_more c.args.space.now.segments (take c.args.place c.args.entries.now) c.in-Some.entry.now c.args.space.now c.args.directory.now c.requires.entered
    c.slots-slots.ensures.directory c.enter_block.new.space c.enter_block.new.directory runs entries))
