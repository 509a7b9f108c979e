use Rattle.std.proofs.Common.{append_assoc, true, arith}
use Rattle.std.proofs.lemmas.Fmt.{hex_two_digits}
use Rattle.term_text.proofs.printing.print_hexadecimal.Goals as goal

pub returns : goal.returns
returns c =
    rw (hex_two_digits true c.args.value (omega arith) (omega arith))
    (simp append_assoc at (rw (c.in_ok-push.ensures.ok, c.hexadecimal_digit-2.ensures, c.hexadecimal_digit-3.ensures) at c.push-3.ensures.ok))
