use Rattle.std.proofs.Common.{append_assoc, arith}
use Rattle.term_text.proofs.PrintedBits.{segment-short, segment-whole}
use Rattle.term_text.proofs.print_bits.print_segment.Goals as goal

pub returns-in_ok-print_number-2 : goal.returns-in_ok-print_number-2
returns-in_ok-print_number-2 c =
    rw (segment-short c.args.byte c.args.used (omega arith) c.requires.0 c.if-used-lt8.true)
    (simp append_assoc (simp append_assoc at (rw (c.in_ok-push.ensures.ok, c.in_ok-print_number.ensures) at c.in_ok-print_number-2.ensures)))

pub returns-else-used-lt8 : goal.returns-else-used-lt8
returns-else-used-lt8 c = rw (segment-whole c.args.byte c.args.used (omega arith) c.if-used-lt8.false c.requires.1) c.in_ok-print_number.ensures
