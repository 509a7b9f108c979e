use Rattle.std.proofs.Common.{◌∙◌, ap, sym, cond, arith}
use Rattle.std.specs.Option.{option_copied}
use Rattle.std.specs.Ordering.{is_lt, is_le}
use Rattle.key_block.proofs.Places.{descends_at, ascends_at, ascends_to_end}
use Rattle.key_block.proofs.judging.ascend.Goals as goal

pub returns-then-not-passes : goal.returns-then-not-passes
returns-then-not-passes c =
    descends_at (cond c.args.strictly is_lt is_le) c.args.objects.now c.loop-place.place c.in-Some.before.now c.in-Some-get.object.now (omega arith)
    (sym c.get.ensures ∙ ap option_copied c.in-Some.is) (sym c.get-in-loop-place.ensures ∙ ap option_copied c.in-Some-get.is) c.loop-place.invariant
    (ap (cond c.args.strictly is_lt is_le) (sym c.cmp.ensures) ∙ sym c.if-not-passes.ensures)

pub loop-place-preserved : goal.loop-place-preserved
loop-place-preserved c =
    ascends_at (cond c.args.strictly is_lt is_le) c.args.objects.now c.loop-place.place c.in-Some.before.now c.in-Some-get.object.now (omega arith)
    (sym c.get.ensures ∙ ap option_copied c.in-Some.is) (sym c.get-in-loop-place.ensures ∙ ap option_copied c.in-Some-get.is) c.loop-place.invariant
    (ap (cond c.args.strictly is_lt is_le) (sym c.cmp.ensures) ∙ sym c.if-not-passes.ensures)

pub returns : goal.returns
returns c =
    ascends_to_end (cond c.args.strictly is_lt is_le) c.args.objects.now c.loop-place.place (omega arith) c.loop-place.invariant
