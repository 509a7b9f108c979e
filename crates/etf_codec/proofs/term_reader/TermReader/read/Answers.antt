use Rattle.std.proofs.Common.{subst, Ok}
use Rattle.etf_codec.specs.TermReader.{StepReads}
use Rattle.etf_codec.proofs.ReaderSteps.{read_fault, read_whole, read_more}
use Rattle.etf_codec.proofs.term_reader.TermReader.read.Goals as goal

pub returns-in_err-answer : goal.returns-in_err-answer
returns-in_err-answer c =
    read_fault c.args.self.now c.loop-answer.self c.args.cursor.now c.loop-answer.cursor c.loop-answer.invariant.1 c.advance.new.self c.advance.new.cursor
    c.from_residual.result _
    c.from_residual.ensures.1 c.in_err-answer.ensures.reads

pub returns-in-Some : goal.returns-in-Some
returns-in-Some c =
    read_whole c.args.self.now c.loop-answer.self c.args.cursor.now c.loop-answer.cursor c.loop-answer.invariant.1 c.advance.new.self c.advance.new.cursor
    c.in-Some.term
    (subst (λ a. StepReads c.loop-answer.self c.advance.new.self c.loop-answer.cursor c.advance.new.cursor (Ok a)) c.in-Some.is c.in_ok-answer.ensures.reads)

pub loop-answer-preserved : goal.loop-answer-preserved
loop-answer-preserved c =
    read_more c.args.self.now c.loop-answer.self c.args.cursor.now c.loop-answer.cursor c.loop-answer.invariant.1 c.advance.new.self c.advance.new.cursor
    (subst (λ a. StepReads c.loop-answer.self c.advance.new.self c.loop-answer.cursor c.advance.new.cursor (Ok a)) c.in-None.is c.in_ok-answer.ensures.reads)
