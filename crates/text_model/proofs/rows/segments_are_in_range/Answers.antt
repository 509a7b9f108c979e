use Rattle.std.proofs.Common.{true, [], ◌∷◌, ◌++◌}
use Rattle.std.specs.Prelude.{codes}
use Rattle.text_model.proofs.Answering.{answer_is}
use Rattle.text_model.proofs.rows.segments_are_in_range.Goals as goal

pub returns-clause-segment : goal.returns-clause-segment
returns-clause-segment c = answer_is true (codes "<<256")

pub returns-clause-segment_open : goal.returns-clause-segment_open
returns-clause-segment_open c = answer_is true (codes "<<25")

pub returns-clause-size : goal.returns-clause-size
returns-clause-size c = answer_is true (codes "<<5:2")

pub returns-clause-size_open : goal.returns-clause-size_open
returns-clause-size_open c = answer_is true (codes "<<5:3")

pub returns-clause-size_zero : goal.returns-clause-size_zero
returns-clause-size_zero c = answer_is true (codes "<<5:0")

pub returns-clause-size_minus : goal.returns-clause-size_minus
returns-clause-size_minus c = answer_is true (codes "<<1:-")

pub returns-clause-code_point : goal.returns-clause-code_point
returns-clause-code_point c = answer_is true (codes "<<\"" ++ 196 ∷ 128 ∷ 255 ∷ [])

pub returns-clause-code_point_end : goal.returns-clause-code_point_end
returns-clause-code_point_end c = answer_is true (codes "<<\"" ++ 196 ∷ 128 ∷ [])

pub returns-clause-code_point_closed : goal.returns-clause-code_point_closed
returns-clause-code_point_closed c = answer_is true (codes "<<\"" ++ 196 ∷ 128 ∷ 34 ∷ [])

pub returns-clause-colon : goal.returns-clause-colon
returns-clause-colon c = answer_is true (codes "<<128:")

pub returns-clause-colon_string : goal.returns-clause-colon_string
returns-clause-colon_string c = answer_is true (codes "<<\"a\":")
