use Rattle.std.proofs.Common.{true, [], ◌∷◌, ◌++◌}
use Rattle.std.specs.Prelude.{replicate, codes}
use Rattle.text_model.proofs.Answering.{answer_is}
use Rattle.text_model.proofs.rows.integers_and_atoms_are_within_their_limits.Goals as goal

pub returns-clause-range : goal.returns-clause-range
returns-clause-range c = answer_is true (codes "170141183460469231731687303715884105728.")

pub returns-clause-nines : goal.returns-clause-nines
returns-clause-nines c = answer_is true (replicate 50 57)

pub returns-clause-long : goal.returns-clause-long
returns-clause-long c = answer_is true (codes "'" ++ replicate 256 97 ++ 255 ∷ [])

pub returns-clause-long_escape : goal.returns-clause-long_escape
returns-clause-long_escape c = answer_is true (codes "'" ++ replicate 255 97 ++ 92 ∷ [])

pub returns-clause-long_cut : goal.returns-clause-long_cut
returns-clause-long_cut c = answer_is true (codes "'" ++ replicate 255 97 ++ 196 ∷ [])
