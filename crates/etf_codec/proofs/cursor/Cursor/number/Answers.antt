use Rattle.std.proofs.Common.{◌+◌, ◌*◌, ◌-◌, arith, ap, sym, ◌∙◌}
use Rattle.etf_model.specs.Spelling.{number, number_after}
use Rattle.etf_codec.proofs.Bytes.{pow_256_le, pow_256_more, number_more, number_fails}
use Rattle.etf_codec.proofs.Reading.{reads_fault}
use Rattle.etf_codec.proofs.cursor.Cursor.number.Goals as goal

pub overflow_mul-value : goal.overflow_mul-value
overflow_mul-value c = omega (arith, pow_256_le c.loop.counter (omega arith))

pub returns-in_err-byte : goal.returns-in_err-byte
returns-in_err-byte c term =
    reads_fault (number c.args.size) term _ _ c.from_residual.result _ c.from_residual.ensures.1
    (c.loop.invariant.1 term ∙ number_fails c.loop.value (c.args.size - c.loop.counter) term c.loop.self _ (omega arith) (c.in_err-byte.ensures.reads term))

pub overflow_add-value : goal.overflow_add-value
overflow_add-value c = omega (arith, pow_256_le c.loop.counter (omega arith))

pub loop-preserved : goal.loop-preserved
loop-preserved c = (
  omega (arith, pow_256_more c.loop.counter),
  λ term. c.loop.invariant.1 term ∙ number_more c.loop.value (c.args.size - c.loop.counter) term c.loop.self _ _ (omega arith) (c.in_ok-byte.ensures.reads term)
      ∙ ap (λ x. (number_after (256 * c.loop.value + x) (c.args.size - c.loop.counter - 1)).read term c.byte.new.self) (sym c.from.ensures)
      ∙ ap (λ n. (number_after (256 * c.loop.value + c.from.result) n).read term c.byte.new.self) (omega arith),
)
