use Rattle.std.proofs.Common.{subst, Ok}
use Rattle.etf_codec.specs.TermReader.{NextReads}
use Rattle.etf_codec.proofs.ReaderSteps.{part_fault, part_whole, part_opens, part_number}
use Rattle.etf_codec.proofs.term_reader.TermReader.read_part.Goals as goal

pub returns-in_err-head-clause-reads : goal.returns-in_err-head-clause-reads
returns-in_err-head-clause-reads c =
    part_fault c.args.self.now c.requires.reader c.requires.stage c.args.cursor.now c.read_next.new.cursor c.from_residual.result _ c.from_residual.ensures.1
    c.in_err-head.ensures.reads

pub complete-requires-clause-part : goal.complete-requires-clause-part
complete-requires-clause-part c =
    (subst (λ h. NextReads c.args.self.now.begun.items c.args.cursor.now c.read_next.new.cursor (Ok h)) c.in-Whole.is c.in_ok-head.ensures.reads).0

pub returns-in-Whole-clause-reads : goal.returns-in-Whole-clause-reads
returns-in-Whole-clause-reads c =
    part_whole c.args.self.now c.requires.reader c.requires.stage c.args.cursor.now
    (record { stage = c.args.self.now.stage; begun = c.complete.new.begun }) c.read_next.new.cursor c.offset-start.result c.in-Whole.term c.complete.result
    c.requires.stage c.offset-start.ensures
    (subst (λ h. NextReads c.args.self.now.begun.items c.args.cursor.now c.read_next.new.cursor (Ok h)) c.in-Whole.is c.in_ok-head.ensures.reads)
    c.complete.ensures

pub returns-in_ok-push_begun-in-Open-clause-reads : goal.returns-in_ok-push_begun-in-Open-clause-reads
returns-in_ok-push_begun-in-Open-clause-reads c =
    part_opens c.args.self.now c.requires.reader c.requires.stage c.args.cursor.now
    (record { stage = c.args.self.now.stage; begun = c.push_begun.new.begun }) c.read_next.new.cursor c.offset-start.result c.in-Open.frame
    c.requires.stage c.offset-start.ensures c.in_ok-push_begun-in-Open.ensures.ok
    (subst (λ h. NextReads c.args.self.now.begun.items c.args.cursor.now c.read_next.new.cursor (Ok h)) c.in-Open.is c.in_ok-head.ensures.reads)

pub returns-in-Number-clause-reads : goal.returns-in-Number-clause-reads
returns-in-Number-clause-reads c =
    part_number c.args.self.now c.requires.reader c.requires.stage c.args.cursor.now c.in-Number.number c.read_next.new.cursor
    (subst (λ h. NextReads c.args.self.now.begun.items c.args.cursor.now c.read_next.new.cursor (Ok h)) c.in-Number.is c.in_ok-head.ensures.reads)
