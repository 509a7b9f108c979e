use Rattle.std.proofs.Common.{◌+◌, ◌-◌, arith}
use Rattle.std.specs.Prelude.{vec_len}
use Rattle.buddy_space.proofs.Written.{written_segment}
use Rattle.buddy_space.proofs.space.Space.add_segment.Goals as goal

pub invariant_of-self-2 : goal.invariant_of-self-2
invariant_of-self-2 c =
    let new = written_segment c.self.inside.segments c.self.inside.marks.items c.resize.new.self.items c.self.inside.deferred.items
    c.self.inside.spare (c.len.result + 4096) (c.len.result + 4096 - vec_len c.self.inside.marks) c.args.self.now c.self.invariant.marked c.self.view_is c.requires
    (omega arith) (omega arith) c.in_ok-resize.ensures.items in
    record { marked = new.0; room = c.self.invariant.room }

pub returns : goal.returns
returns c =
    let new = written_segment c.self.inside.segments c.self.inside.marks.items c.resize.new.self.items c.self.inside.deferred.items
    c.self.inside.spare (c.len.result + 4096) (c.len.result + 4096 - vec_len c.self.inside.marks) c.args.self.now c.self.invariant.marked c.self.view_is c.requires
    (omega arith) (omega arith) c.in_ok-resize.ensures.items in
    record { ok = new.1; err = tt; parted = new.0.parted }
