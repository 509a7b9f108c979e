use Rattle.std.proofs.Common.{sym}
use Rattle.key_block.proofs.Elements.{listed}
use Rattle.key_block.proofs.Allowing.{allowed}
use Rattle.key_block.proofs.unpacking.unpack.Goals as goal

pub returns-clause-answers : goal.returns-clause-answers
returns-clause-answers c =
    let found = listed c.args.payload.now c.in_ok-term.term c.in_ok-objects.objects c.in_ok-term.ensures c.in_ok-objects.ensures.elements in (
      found.list,
      allowed c.args.kind c.args.keypos c.in_ok-objects.objects (record {
        objects = sym c.if-not-are_objects.ensures;
        keys = sym c.if-not-share_key.ensures;
        order = sym c.if-not-in_order.ensures;
      }),
    )
