use Rattle.etf_model.specs.Spelling.{spelling}
use Rattle.etf_model.specs.SpellingExact.{spelling-exact}
use Rattle.etf_model.proofs.SpellingSharp.{spelling-sharp, spelling-moving}
use Rattle.etf_model.proofs.Breaks.{break_moved}
use Rattle.etf_model.proofs.laws.breaks_move_with_the_offset_at_which_bytes_begin.Goals as goal

pub returns-clause-kept : goal.returns-clause-kept
returns-clause-kept c start n bytes fault b = spelling-moving.break_moves n start start bytes fault b

pub returns-clause-no_others : goal.returns-clause-no_others
returns-clause-no_others c = break_moved spelling spelling-exact spelling-sharp spelling-moving
