-- A write among the calls begins within the file.
use Rattle.std.proofs.Common.{◌≡◌, ◌≤◌, ◌∙◌, ap, sym, subst, length, get_or, arith}
use Rattle.host_model.specs.Log.{call_of}
use Rattle.host_model.specs.Calls.Call.{Wrote}
use Rattle.host_model.proofs.Again.{possible_at}
use Rattle.host_model.proofs.restart.replay.Goals as goal

pub overwrite-requires : goal.overwrite-requires
overwrite-requires c =
    let is_write : call_of (get_or c.args.calls.now c.loop-call.call-index c.call-item.result) ≡ Wrote c.in-Write.at c.in-Write.bytes.items =
    ap call_of (sym c.call-item.is) ∙ ap call_of c.in-Write.is in
    subst (λ f. c.in-Write.at ≤ length f) (sym c.loop-call.invariant) (possible_at c.args.file.now.items c.args.calls.now c.loop-call.call-index
    c.call-item.result c.in-Write.at c.in-Write.bytes.items (omega arith) is_write c.requires)
