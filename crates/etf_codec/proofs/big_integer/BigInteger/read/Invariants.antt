use Rattle.std.proofs.Common.{◌≡◌, ◌-◌}
use Rattle.etf_codec.specs.BigIntegers.{IsBig, integer_read}
use Rattle.etf_codec.specs.GoesOn.{GoesOn}
use Rattle.etf_codec.proofs.big_integer.BigInteger.read.Given as goal

-- what is left to read goes on from the magnitude so far
abbrev pub invariant-loop-self : goal.invariant-loop-self
invariant-loop-self l = IsBig l.self × (l.self.start ≡ l.fn.self.start) × (l.self.sign ≡ l.fn.self.sign) × (l.self.length ≡ l.fn.self.length)
    × GoesOn (integer_read l.fn.self) (integer_read l.self) l.fn.cursor l.cursor

abbrev pub decreases-loop-self : goal.decreases-loop-self
decreases-loop-self l = l.self.length - l.self.index
