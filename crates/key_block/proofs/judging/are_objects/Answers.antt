use Rattle.std.proofs.Common.{◌∙◌, ap, sym, arith}
use Rattle.std.specs.Option.{option_copied}
use Rattle.table_model.specs.Allowed.{is_object}
use Rattle.key_block.proofs.Places.{fails_at, passes_at}
use Rattle.key_block.proofs.Allowing.{of_some}
use Rattle.key_block.proofs.judging.are_objects.Goals as goal

pub returns-then-not-is_object : goal.returns-then-not-is_object
returns-then-not-is_object c =
    fails_at (is_object c.args.keypos) c.args.objects.now c.loop-place.place c.in-Some.object.now (sym c.get.ensures ∙ ap option_copied c.in-Some.is)
    c.loop-place.invariant (sym c.if-not-is_object.ensures)
    ∙ sym (of_some c.args.keypos c.args.objects.now (omega arith))

pub loop-place-preserved : goal.loop-place-preserved
loop-place-preserved c =
    passes_at (is_object c.args.keypos) c.args.objects.now c.loop-place.place c.in-Some.object.now (sym c.get.ensures ∙ ap option_copied c.in-Some.is)
    c.loop-place.invariant (sym c.if-not-is_object.ensures)
