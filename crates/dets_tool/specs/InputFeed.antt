-- What a feed of the input shows, and what a pull does. All of it is this project's own.
use Rattle.std.specs.Prelude.{◌≡◌, ℕ, ◌+◌, ◌<◌, ◌≤◌, List, [], length, take, Option, option_map, IfSome, Result, Ok, Err}
use Rattle.host_model.specs.Source.{Stream, after_read}
use Rattle.dets_tool.specs.declared.input_feed.InputState.{InputState}
use Rattle.dets_tool.specs.declared.input_feed.InputState.TheVariants.{Reading, Ended, TooMuch}
use Rattle.dets_tool.specs.declared.input_feed.Piece.{Piece}
use Rattle.dets_tool.specs.declared.input_feed.Piece.TheVariants.{Bytes, End}
use Rattle.dets_tool.specs.declared.input_feed.PullFault.{PullFault}
use Rattle.dets_tool.specs.declared.input_feed.PullFault.TheVariants.{SourceFault, TooMuch as PastBudget}

pub record InputFeedValue : Type 0 where
  -- how many bytes are left of the budget
  pub room : ℕ
  -- the bytes of the last read that gave some; none after the end and past the budget
  pub piece : List ℕ
  pub state : InputState

-- a new feed with this budget
abbrev pub fresh_feed : ℕ → InputFeedValue
fresh_feed budget = record { room = budget; piece = []; state = Reading }

-- the read gave the piece: between 1 and 4,096 bytes of the budget, the next ones of the stream
pub record GivesPiece (old new : InputFeedValue) (before after : Option Stream) : Type 0 where
  pub some : 0 < length new.piece
  pub short : length new.piece ≤ 4096
  pub room : new.room + length new.piece ≡ old.room
  pub goes_on : new.state ≡ Reading
  pub taken : after ≡ option_map (after_read (length new.piece)) before
  pub given : IfSome before (λ s. new.piece ≡ take (length new.piece) s.left)

-- the read answered 0
pub record Ends (old new : InputFeedValue) (before after : Option Stream) : Type 0 where
  pub feed : new ≡ record old { piece = []; state = Ended }
  pub taken : after ≡ option_map (after_read 0) before
  pub end : IfSome before (λ s. s.left ≡ [])

-- nothing was left of the budget, and the read gave one byte
pub record PassesBudget (old new : InputFeedValue) (before after : Option Stream) : Type 0 where
  pub used_up : old.room ≡ 0
  pub feed : new ≡ record old { piece = []; state = TooMuch }
  pub taken : after ≡ option_map (after_read 1) before
  pub more : IfSome before (λ s. 0 < length s.left)

-- the read failed
pub record TakesNothing (old new : InputFeedValue) (before after : Option Stream) : Type 0 where
  pub feed : new ≡ old
  pub untaken : after ≡ before

-- what a pull that reads does, by its answer: to the feed, and to the stream where the source tells it
abbrev pub Pulled : Result Piece PullFault → InputFeedValue → InputFeedValue → Option Stream → Option Stream → Type 0
Pulled (Ok Bytes) old new before after = GivesPiece old new before after
Pulled (Ok End) old new before after = Ends old new before after
Pulled (Err PastBudget) old new before after = PassesBudget old new before after
Pulled (Err SourceFault) old new before after = TakesNothing old new before after

-- after the end and past the budget each pull answers the same
abbrev pub AnswersAgain : InputState → Result Piece PullFault → Type 0
AnswersAgain Reading answer = Unit {0}
AnswersAgain Ended answer = answer ≡ Ok End
AnswersAgain TooMuch answer = answer ≡ Err PastBudget
