-- What a feed of printed terms shows, and what the bytes of its stream mean.
use Rattle.std.specs.Prelude.{◌≡◌, ℕ, ◌+◌, Bool, true, false, cond, List, ◌⊎◌}
use Rattle.feed_model.specs.Meaning.{Behind, goes_on, ends, breaks, InFront, a_term, no_term, Meaning}
use Rattle.feed_model.specs.Feed.{Feed}
use Rattle.text_model.specs.declared.fault.TextFault.{TextFault}
use Rattle.text_model.specs.declared.fault.TextFault.TheVariants.{Syntax, Memory}
use Rattle.text_model.specs.Script.{Rest, blank, may_go_on, fault, a_term as a_sentence, no_term as no_sentence, IsAnswer}

abbrev pub TextFeed : Type 0
TextFeed = Feed TextFault

-- A term where one stands in front with its full stop. Where none does, the stream goes on where more may come and no rule is broken,
-- and ends where no more comes and there are blanks alone; else a rule is broken, with the offset in the stream.
abbrev pub stands : (finished : Bool) (start : ℕ) (bytes : List ℕ) → InFront TextFault → Type 0
stands finished start bytes (a_term t count) = IsAnswer finished bytes (a_sentence t count)
stands finished start bytes (no_term goes_on) =
    (finished ≡ false) × (IsAnswer false bytes (no_sentence blank) ⊎ IsAnswer false bytes (no_sentence may_go_on))
stands finished start bytes (no_term ends) = (finished ≡ true) × IsAnswer true bytes (no_sentence blank)
stands finished start bytes (no_term (breaks (Syntax at why))) =
    (offset : ℕ) × (at ≡ start + offset) × IsAnswer finished bytes (no_sentence (fault offset why))
stands finished start bytes (no_term (breaks Memory)) = ⊥

abbrev pub texts : Meaning TextFault
texts = record { Stands = stands; memory = Memory }

-- the rest of a script, as what stands behind the terms of a stream: a fault has its offset in the stream then
abbrev pub behind_of : (finished : Bool) (start : ℕ) → Rest → Behind TextFault
behind_of finished start blank = cond finished ends goes_on
behind_of finished start may_go_on = goes_on
behind_of finished start (fault offset why) = breaks (Syntax (start + offset) why)
