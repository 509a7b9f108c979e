use Rattle.std.proofs.Common.{◌≤◌, length, ap, arith}
use Rattle.std.specs.Str.{chars}
use Rattle.std.proofs.lemmas.Str.{encodes-chars, length-le-encodes}
use Rattle.dets_term.specs.Limits.{atom_or_memory}
use Rattle.dets_machine.proofs.reply.word.Goals as goal

pub within_limits-requires : goal.within_limits-requires
within_limits-requires c =
    let bytes = encodes-chars c.args.text.now c.utf8.text in
    let short : length (chars c.args.text.now) ≤ 255 = omega (arith, length-le-encodes (chars c.args.text.now), ap length bytes) in
    atom_or_memory c.atom.result (length (chars c.args.text.now)) short c.atom.ensures.long c.atom.ensures.faults
