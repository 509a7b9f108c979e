use Rattle.std.proofs.Common.{◌≡◌, length}
use Rattle.std.specs.Prelude.{reverse}
use Rattle.etf_model.specs.Format.{Position}
use Rattle.etf_codec.specs.Machine.{resume}
use Rattle.etf_codec.specs.Begun.{MayCome}
use Rattle.etf_codec.specs.TermReader.{IsNest}
use Rattle.etf_codec.proofs.term_reader.complete.Given as goal

-- reading goes on behind the term so far as it does behind the part
abbrev pub invariant-loop-innermost : goal.invariant-loop-innermost
invariant-loop-innermost l = IsNest l.begun.items × MayCome (reverse l.begun.items) l.term
    × ((position : Position) → resume (reverse l.fn.begun.items) l.fn.start l.fn.part position ≡ resume (reverse l.begun.items) l.at l.term position)

abbrev pub decreases-loop-innermost : goal.decreases-loop-innermost
decreases-loop-innermost l = length l.begun.items
