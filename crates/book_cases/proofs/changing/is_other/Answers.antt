use Rattle.std.proofs.Common.{◌∙◌, ap, sym, arith}
use Rattle.std.specs.Option.{option_copied}
use Rattle.book_cases.specs.Others.{IsOther}
use Rattle.book_cases.proofs.Rest.{rest_next, rest_none}
use Rattle.book_cases.proofs.changing.is_other.Goals as goal

pub loop-place-preserved : goal.loop-place-preserved
loop-place-preserved c =
    rest_next (λ e. IsOther e c.args.change.now) c.args.changes.now c.loop-place.place c.in-Some.earlier.now
    (sym c.get.ensures ∙ ap option_copied c.in-Some.is) (c.differs.ensures c.if-not-differs.false) c.loop-place.invariant

pub returns : goal.returns
returns c is = rest_none (λ e. IsOther e c.args.change.now) c.args.changes.now c.loop-place.place (omega arith) c.loop-place.invariant
