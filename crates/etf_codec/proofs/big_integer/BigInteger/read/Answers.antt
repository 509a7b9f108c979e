use Rattle.std.proofs.Common.{◌≡◌, ◌+◌, ◌*◌, ◌^◌, ◌<◌, ◌≤◌, subst, sym, ◌∙◌, ap, arith}
use Rattle.etf_model.specs.Layout.{limit}
use Rattle.etf_model.specs.declared.fault.EtfFault.TheVariants.{IntegerRange}
use Rattle.etf_codec.specs.BigIntegers.{IntegerReads}
use Rattle.etf_codec.proofs.IntegerSteps.{integer_short, integer_passes, integer_grows}
use Rattle.etf_codec.proofs.Within.{ok_or_none, ok_or_some}
use Rattle.etf_codec.proofs.big_integer.BigInteger.read.Goals as goal

pub returns-in_err-digit-clause-reads : goal.returns-in_err-digit-clause-reads
returns-in_err-digit-clause-reads c =
    subst (λ p. IntegerReads c.args.self.now c.loop-self.self c.args.cursor.now p c.from_residual.result) (sym c.in_err-digit.ensures.stays)
    (integer_short c.args.self.now c.loop-self.self c.args.cursor.now c.loop-self.cursor c.loop-self.invariant.4 c.from_residual.result _
    c.from_residual.ensures.1
    c.loop-self.invariant.0 c.loop-self.invariant.1 (omega (arith, c.loop-self-test.true, c.loop-self.invariant.3))
    (c.in_err-digit.ensures.reads c.loop-self.self.start))

pub returns-in_err-magnitude-clause-reads : goal.returns-in_err-magnitude-clause-reads
returns-in_err-magnitude-clause-reads c =
    let past = ok_or_none c.raised.result (IntegerRange c.loop-self.self.start) _ _ _ c.raised.ensures (sym c.ok_or.ensures.value ∙ c.in_err-magnitude.was) in
    let most : c.limit_of-most.result ≡ limit c.loop-self.self.sign = c.limit_of-most.ensures ∙ ap limit (sym c.loop-self.invariant.2) in
    integer_passes c.args.self.now c.loop-self.self c.args.cursor.now c.loop-self.cursor c.loop-self.invariant.4 c.loop-self.self c.byte.new.self
    c.from_residual-in_err-magnitude.result c.in_err-magnitude.field-0.0 c.in_ok-digit.digit c.from_residual-in_err-magnitude.ensures.1
    (past.1 ∙ ap IntegerRange c.loop-self.invariant.1)
    c.loop-self.invariant.1 (omega (arith, c.loop-self-test.true, c.loop-self.invariant.3)) (c.in_ok-digit.ensures.reads c.loop-self.self.start)
    (subst (λ n. n < c.loop-self.self.magnitude + 256 ^ c.loop-self.self.index * c.in_ok-digit.digit) most past.0)

pub loop-self-preserved : goal.loop-self-preserved
loop-self-preserved c =
    let within = ok_or_some c.raised.result (IntegerRange c.loop-self.self.start) _ _ _ c.raised.ensures (sym c.ok_or.ensures.value ∙ c.in_ok-magnitude.was) in
    let most : c.limit_of-most.result ≡ limit c.loop-self.self.sign = c.limit_of-most.ensures ∙ ap limit (sym c.loop-self.invariant.2) in
    let fits : c.in_ok-magnitude.magnitude ≤ limit c.loop-self.self.sign = subst (λ n. c.in_ok-magnitude.magnitude ≤ n) most within.1 in (
      (fits, omega (arith, c.loop-self-test.true, c.loop-self.invariant.3)),
      c.loop-self.invariant.1,
      c.loop-self.invariant.2,
      c.loop-self.invariant.3,
      integer_grows c.args.self.now c.loop-self.self c.args.cursor.now c.loop-self.cursor c.loop-self.invariant.4 c.in_ok-digit.digit
          c.in_ok-magnitude.magnitude c.byte.new.self (omega (arith, c.loop-self-test.true, c.loop-self.invariant.3))
          (c.in_ok-digit.ensures.reads c.loop-self.self.start) within.0 fits,
    )
