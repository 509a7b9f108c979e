use Rattle.std.proofs.Common.{◌∙◌, ap, sym, arith}
use Rattle.std.specs.Option.{option_copied}
use Rattle.write_cache.specs.Waiting.{states_of}
use Rattle.book_cases.proofs.Rest.{rest_next, rest_none}
use Rattle.book_cases.proofs.Waits.{Elsewhere, length-states_of, all_elsewhere}
use Rattle.book_cases.proofs.old.is_pending.Goals as goal

pub loop-place-preserved : goal.loop-place-preserved
loop-place-preserved c =
    rest_next (Elsewhere c.args.unit) (states_of c.args.cache.now) c.loop-place.place c.in-Some.state.now
    (sym c.at.ensures ∙ ap option_copied c.in-Some.is) (c.begins_at.ensures c.if-begins_at.false) c.loop-place.invariant

pub returns : goal.returns
returns c is =
    all_elsewhere c.args.cache.now c.args.unit
    (rest_none (Elsewhere c.args.unit) (states_of c.args.cache.now) c.loop-place.place (omega (arith, length-states_of c.args.cache.now)) c.loop-place.invariant)
