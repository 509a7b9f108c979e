use Rattle.std.proofs.Common.{refl}
use Rattle.etf_codec.specs.declared.term_reader.Stage.TheVariants.{Part}
use Rattle.etf_codec.proofs.ReaderSteps.{integer_comes, number_whole, number_forward}
use Rattle.etf_codec.proofs.term_reader.TermReader.advance.Goals as goal

pub complete-requires-clause-part : goal.complete-requires-clause-part
complete-requires-clause-part c =
    integer_comes c.args.self.now.begun.items c.in_ok-integer-in-Number.integer c.requires.0 c.in_ok-integer-in-Number.ensures.leaf

pub returns-in_ok-integer-in-Number-clause-reads : goal.returns-in_ok-integer-in-Number-clause-reads
returns-in_ok-integer-in-Number-clause-reads c =
    number_whole c.args.self.now c.requires c.in-Number.number c.in-Number.is c.args.cursor.now c.read.new.cursor c.read.new.self
    (record { stage = Part; begun = c.complete.new.begun })
    c.in_ok-integer-in-Number.integer c.complete.result refl c.in_ok-integer-in-Number.ensures.reads c.complete.ensures

pub returns-in_ok-integer-in-Number-clause-forward : goal.returns-in_ok-integer-in-Number-clause-forward
returns-in_ok-integer-in-Number-clause-forward c =
    number_forward c.args.self.now c.requires c.in-Number.number c.in-Number.is c.args.cursor.now c.read.new.cursor
    (record { stage = Part; begun = c.complete.new.begun })
    c.in_ok-integer-in-Number.integer c.complete.result refl c.in_ok-integer-in-Number.ensures.reads
