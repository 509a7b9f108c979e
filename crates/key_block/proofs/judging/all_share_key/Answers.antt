use Rattle.std.proofs.Common.{◌∙◌, ap, sym}
use Rattle.std.specs.Option.{option_copied}
use Rattle.dets_term.specs.TermValue.{key}
use Rattle.table_model.specs.Table.{shares_key}
use Rattle.key_block.proofs.Places.{fails_at, passes_at}
use Rattle.key_block.proofs.judging.all_share_key.Goals as goal

pub returns-then-not-shares_key : goal.returns-then-not-shares_key
returns-then-not-shares_key c =
    fails_at (shares_key c.args.keypos (key c.args.first.now c.args.keypos)) c.args.objects.now c.loop-place.place c.in-Some.object.now
    (sym c.get.ensures ∙ ap option_copied c.in-Some.is) c.loop-place.invariant (sym c.if-not-shares_key.ensures)

pub loop-place-preserved : goal.loop-place-preserved
loop-place-preserved c =
    passes_at (shares_key c.args.keypos (key c.args.first.now c.args.keypos)) c.args.objects.now c.loop-place.place c.in-Some.object.now
    (sym c.get.ensures ∙ ap option_copied c.in-Some.is) c.loop-place.invariant (sym c.if-not-shares_key.ensures)
