use Rattle.std.proofs.Common.{◌≡◌, pos, map}
use Rattle.dets_term.specs.TermValue.{integer}
use Rattle.text_nest.proofs.strings.code_points.Given as goal

-- the characters so far
abbrev pub invariant-loop-character : goal.invariant-loop-character
invariant-loop-character l = l.parts ≡ map (λ c. integer (pos c)) l.yielded
