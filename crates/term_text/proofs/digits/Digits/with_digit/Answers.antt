use Rattle.std.proofs.Common.{arith}
use Rattle.term_text.proofs.EscapeDigits.{few_digits}
use Rattle.term_text.proofs.digits.Digits.with_digit.Goals as goal

pub overflow_mul-result : goal.overflow_mul-result
overflow_mul-result c = omega (arith, few_digits c.args.self.value c.args.self.count c.requires.count c.args.self.small)

pub overflow_add-result : goal.overflow_add-result
overflow_add-result c = omega (arith, few_digits c.args.self.value c.args.self.count c.requires.count c.args.self.small, c.from.ensures, c.requires.digit)
