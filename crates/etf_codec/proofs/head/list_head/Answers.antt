use Rattle.std.proofs.Common.{arith, ◌∙◌}
use Rattle.etf_model.specs.Spelling.{list_of, part_at, tail_at}
use Rattle.etf_codec.proofs.TermSteps.{list_none, or_else}
use Rattle.etf_codec.proofs.HeadSteps.{list_opens, head_fault}
use Rattle.etf_codec.proofs.head.list_head.Goals as goal

pub returns-in_err-read_no_tail-clause-reads : goal.returns-in_err-read_no_tail-clause-reads
returns-in_err-read_no_tail-clause-reads c =
    head_fault (list_of (part_at c.args.levels) (tail_at c.args.levels) c.args.levels) c.args.levels c.args.start c.args.cursor.now c.read_no_tail.new.cursor
    c.from_residual-in_err-read_no_tail.result _
    c.from_residual-in_err-read_no_tail.ensures.1
    (or_else (λ e. list_none c.args.levels c.args.start c.in_ok-count.count c.args.cursor.now c.count.new.self c.in_ok-count.ensures.reads (omega arith) ∙ e)
    (c.in_err-read_no_tail.ensures.reads c.args.start))

pub returns-then-count-eq0-clause-reads : goal.returns-then-count-eq0-clause-reads
returns-then-count-eq0-clause-reads c =
    list_none c.args.levels c.args.start c.in_ok-count.count c.args.cursor.now c.count.new.self c.in_ok-count.ensures.reads (omega arith)
    ∙ c.in_ok-read_no_tail.ensures.reads c.args.start

pub returns-clause-reads : goal.returns-clause-reads
returns-clause-reads c =
    list_opens c.args.levels c.args.start c.in_ok-count.count c.args.cursor.now c.count.new.self c.new.result c.in_ok-count.ensures.reads
    (omega arith) c.new.ensures
