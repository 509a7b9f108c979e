use Rattle.etf_codec.specs.GoesOn.{GoesOn}
use Rattle.etf_codec.specs.TermReader.{reads_on, IsReader, ahead}
use Rattle.etf_codec.proofs.term_reader.TermReader.read.Given as goal

-- reading goes on where it stands as it does from the first position
abbrev pub invariant-loop-answer : goal.invariant-loop-answer
invariant-loop-answer l = IsReader l.self × GoesOn (reads_on l.fn.self) (reads_on l.self) l.fn.cursor l.cursor

abbrev pub decreases-loop-answer : goal.decreases-loop-answer
decreases-loop-answer l = ahead l.self l.cursor
