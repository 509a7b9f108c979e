use Rattle.std.proofs.Common.{nat_le, sym, ap, ◌∙◌}
use Rattle.std.proofs.lemmas.Bool.{lt-leb}
use Rattle.block_disk.proofs.Heads.{judged_by_length, too_large}
use Rattle.block_disk.proofs.block_head.is_well_formed.Goals as goal

pub returns-then-exp-le-MOST : goal.returns-then-exp-le-MOST
returns-then-exp-le-MOST c =
    ap (λ room. nat_le c.args.length room) c.payload_room.ensures ∙ sym (judged_by_length c.args.exp c.args.length c.if-exp-le-MOST.true)

pub returns-else-exp-le-MOST : goal.returns-else-exp-le-MOST
returns-else-exp-le-MOST c =
    lt-leb c.args.exp 12 c.if-exp-le-MOST.false ∙ sym (too_large c.args.exp c.args.length c.if-exp-le-MOST.false)
