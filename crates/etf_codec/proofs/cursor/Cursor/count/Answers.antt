use Rattle.std.proofs.Common.{◌-◌, ◌∙◌, ap, arith, false}
use Rattle.etf_model.specs.Spelling.{number, count, count_after}
use Rattle.etf_codec.proofs.Counts.{count_number, count_more, count_deep, count_fails}
use Rattle.etf_codec.proofs.Reading.{reads_fault}
use Rattle.etf_codec.proofs.Within.{reads_alike}
use Rattle.etf_codec.proofs.cursor.Cursor.count.Goals as goal

pub returns-then-levels-gt0-clause-reads : goal.returns-then-levels-gt0-clause-reads
returns-then-levels-gt0-clause-reads c =
    reads_alike (number c.args.size) (count c.args.levels c.args.size) c.args.term _ _ c.number.result
    (count_number c.args.levels c.args.size c.args.term _ (omega arith)) (c.number.ensures c.args.term)

pub returns-in_err-byte-clause-reads : goal.returns-in_err-byte-clause-reads
returns-in_err-byte-clause-reads c =
    reads_fault (count c.args.levels c.args.size) c.args.term _ _ c.from_residual.result _ c.from_residual.ensures.1
    (c.loop.invariant ∙ count_fails (c.args.size - c.loop.counter) c.args.term c.loop.self _ (omega arith) (c.in_err-byte.ensures.reads c.args.term))

pub returns-then-branch-ne0-clause-reads : goal.returns-then-branch-ne0-clause-reads
returns-then-branch-ne0-clause-reads c =
    c.loop.invariant ∙ count_deep (c.args.size - c.loop.counter) c.args.term c.loop.self _ _ (omega arith) (c.in_ok-byte.ensures.reads c.args.term)
    (omega arith)

pub loop-preserved : goal.loop-preserved
loop-preserved c =
    c.loop.invariant ∙ count_more (c.args.size - c.loop.counter) c.args.term c.loop.self _ _ (omega arith) (c.in_ok-byte.ensures.reads c.args.term)
    (omega arith)
    ∙ ap (λ n. (count_after false 0 n).read c.args.term c.byte.new.self) (omega arith)
