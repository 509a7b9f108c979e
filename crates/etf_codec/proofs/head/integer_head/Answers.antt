use Rattle.std.proofs.Common.{◌∙◌, refl, inr}
use Rattle.etf_model.specs.Spelling.{big_integer}
use Rattle.etf_codec.proofs.Bytes.{go_on_ok, go_on_err}
use Rattle.etf_codec.proofs.HeadSteps.{integer_opens, head_fault}
use Rattle.etf_codec.proofs.head.integer_head.Goals as goal

pub returns-in_err-sign-clause-reads : goal.returns-in_err-sign-clause-reads
returns-in_err-sign-clause-reads c levels =
    head_fault (big_integer c.args.size) levels c.args.start c.args.cursor.now c.byte.new.self c.from_residual-in_err-sign.result _
    c.from_residual-in_err-sign.ensures.1
    (inr (go_on_ok _ _ _ _ (c.in_ok-length.ensures c.args.start) ∙ go_on_err _ _ _ (c.in_err-sign.ensures.reads c.args.start)))

pub returns-clause-reads : goal.returns-clause-reads
returns-clause-reads c levels = (
  refl,
  integer_opens c.args.size c.args.start c.in_ok-length.length c.in_ok-sign.sign c.args.cursor.now c.number.new.self c.byte.new.self
      (c.in_ok-length.ensures c.args.start) (c.in_ok-sign.ensures.reads c.args.start),
)
