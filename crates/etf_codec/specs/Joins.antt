-- What a begun term becomes with its next part. This project's own.
use Rattle.std.specs.Prelude.{◌≡◌, ℕ, ◌+◌, ◌≤◌, ◌⊎◌, List, ◌∷◌, Result, Ok, Err}
use Rattle.dets_term.specs.TermValue.{TermValue, depth}
use Rattle.etf_model.specs.declared.fault.EtfFault.{EtfFault}
use Rattle.etf_model.specs.declared.fault.EtfFault.TheVariants.{Memory, RepeatedKey}
use Rattle.etf_model.specs.Format.{Position}
use Rattle.etf_codec.specs.declared.frame.Begun.{Begun}
use Rattle.etf_codec.specs.declared.frame.Frame.{Frame}
use Rattle.etf_codec.specs.declared.joining.Joined.{Joined}
use Rattle.etf_codec.specs.declared.joining.Joined.TheVariants.{Whole, Open}
use Rattle.etf_codec.specs.Machine.{resume, reading_at}
use Rattle.etf_codec.specs.Begun.{FrameFits, PartFits, MayBegin}

-- A begun term with a part that begins at an offset: it is whole, or begun with a next part, or a fault; reading goes on
-- in each of the terms around it as the answer says.
abbrev pub JoinsTo : Begun → ℕ → TermValue → Result Joined EtfFault → Type 0
JoinsTo b at t (Ok (Whole start whole)) = (begun : List Begun) (position : Position) → resume (b ∷ begun) at t position ≡ resume begun start whole position
JoinsTo b at t (Ok (Open c)) = (begun : List Begun) (position : Position) → resume (b ∷ begun) at t position ≡ reading_at (c ∷ begun) position
JoinsTo b at t (Err fault) =
    (fault ≡ Memory) ⊎ ((fault ≡ RepeatedKey at) × ((begun : List Begun) (position : Position) → resume (b ∷ begun) at t position ≡ Err fault))

-- what stays within the limits of terms, where the parts have at most so many levels
abbrev pub JoinsWithin : Begun → ℕ → Result Joined EtfFault → Type 0
JoinsWithin b levels (Ok (Whole start whole)) = (depth whole ≤ levels + 1) × ((outer : Frame) → MayBegin outer b.frame → PartFits outer (levels + 1) whole)
JoinsWithin b levels (Ok (Open c)) = FrameFits c.frame levels × ((outer : Frame) → MayBegin outer b.frame → MayBegin outer c.frame)
JoinsWithin b levels (Err fault) = Unit {0}
