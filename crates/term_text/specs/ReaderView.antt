-- The code's reader as the machine with its counts, and what holds of it between two bytes.
use Rattle.std.specs.Prelude.{◌≡◌, ◌+◌, ◌-◌, ◌<◌, ◌≤◌, false}
use Rattle.text_model.specs.Sentence.{longest}
use Rattle.text_model.specs.Reader.{State}
use Rattle.text_model.specs.Progress.{Progress}
use Rattle.term_text.specs.declared.reader.Reader.{Reader}
use Rattle.text_nest.specs.NestView.{nest_of}
use Rattle.term_text.specs.LexemeView.{lexeme_of}
use Rattle.term_text.specs.StateFits.{IsFitState}
use Rattle.text_nest.specs.Strays.{is_stopped}

abbrev pub state_of : Reader → State
state_of r = record { nest = nest_of r.nest; lexeme = lexeme_of r.lexeme }

abbrev pub progress_of : Reader → Progress
progress_of r = record { state = state_of r; read = r.read; blank = r.blank }

-- no term has too many bytes, and each is within the limits of terms
pub record IsReady (p : Progress) : Type 0 where
  pub order : p.blank ≤ p.read
  pub fits : IsFitState (p.read - p.blank) p.state
  pub short : p.read ≤ p.blank + longest
  pub room : is_stopped p.state.nest.place ≡ false → p.read < p.blank + longest
