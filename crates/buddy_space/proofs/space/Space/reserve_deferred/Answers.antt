use Rattle.buddy_space.proofs.Deferring.{spared}
use Rattle.buddy_space.proofs.space.Space.reserve_deferred.Goals as goal

pub invariant_of-self-then-self-n : goal.invariant_of-self-then-self-n
invariant_of-self-then-self-n c =
    let room = c.in_ok-reserve.ensures.ok in
    rw c.in_ok-reserve.ensures.items (record { marked = spared c.self.inside.marks.items _ c.args.n c.self.invariant.marked; room = room })
