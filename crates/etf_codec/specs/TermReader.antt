-- The terms that are begun while a term is read, the innermost last, and what is read next. This project's own.
use Rattle.std.specs.Prelude.{◌≡◌, ◌≢◌, ℕ, ◌≤◌, ◌+◌, ◌*◌, ◌⊎◌, List, [], ◌∷◌, reverse, length, Option, Some, None, Result, Ok, Err}
use Rattle.dets_term.specs.TermValue.{TermValue}
use Rattle.etf_model.specs.declared.fault.EtfFault.{EtfFault}
use Rattle.etf_model.specs.declared.fault.EtfFault.TheVariants.{Short, Memory}
use Rattle.etf_model.specs.Format.{Position, Reading, go_on}
use Rattle.etf_model.specs.Spelling.{spelling}
use Rattle.etf_codec.specs.declared.frame.Begun.{Begun}
use Rattle.etf_codec.specs.declared.term_reader.Stage.{Stage}
use Rattle.etf_codec.specs.declared.term_reader.TermReader.{TermReader}
use Rattle.etf_codec.specs.declared.term_reader.Stage.TheVariants.{Version, Part, Number}
use Rattle.etf_codec.specs.Machine.{resume, reading_at}
use Rattle.etf_codec.specs.declared.head.Head.{Head}
use Rattle.etf_codec.specs.declared.head.Head.TheVariants.{Whole, Open, Number as Big}
use Rattle.etf_codec.specs.Begun.{AreBegun, MayCome}
use Rattle.etf_codec.specs.BigIntegers.{IsBig, integer_read}
use Rattle.etf_codec.specs.GoesOn.{GoesOn}

-- a reader that has read nothing
abbrev pub IsFresh : TermReader → Type 0
IsFresh r = (r.stage ≡ Version) × (r.begun.items ≡ [])

-- what reading answers at the position that it has come to
abbrev pub reads_next : Stage → List Begun → Position → Reading TermValue
reads_next Version begun position = spelling.read position.offset position
reads_next Part begun position = reading_at (reverse begun) position
reads_next (Number b) begun position = go_on (integer_read b position) (λ t behind. resume (reverse begun) b.start t behind)

abbrev pub reads_on : TermReader → Position → Reading TermValue
reads_on r position = reads_next r.stage r.begun.items position

-- terms that are begun one in another, at most at 255 levels
abbrev pub IsNest : List Begun → Type 0
IsNest begun = (length begun ≤ 255) × AreBegun (reverse begun)

-- nothing is begun before the version
abbrev pub StageFits : Stage → List Begun → Type 0
StageFits Version begun = begun ≡ []
StageFits Part begun = Unit {0}
StageFits (Number b) begun = IsBig b

abbrev pub IsReader : TermReader → Type 0
IsReader r = IsNest r.begun.items × StageFits r.stage r.begun.items

-- what is answered for the byte in front: what follows it is the term, or the fault
abbrev pub VersionReads : Position → Position → Result (Unit {0}) EtfFault → Type 0
VersionReads before behind (Ok none) = GoesOn (reads_next Version []) (reads_next Part []) before behind
VersionReads before behind (Err fault) = (reads_next Version [] before ≡ Err fault) × (fault ≡ Short → behind ≡ before)

-- What is answered where the next part begins: a whole one, or one that is begun, or a big integer, with which reading goes on;
-- or the fault, and the position is as it was.
abbrev pub NextReads : List Begun → Position → Position → Result Head EtfFault → Type 0
NextReads begun before behind (Ok (Whole t)) =
    MayCome (reverse begun) t × GoesOn (reading_at (reverse begun)) (resume (reverse begun) before.offset t) before behind
NextReads begun before behind (Ok (Open frame)) =
    (length begun ≤ 254) × AreBegun (record { start = before.offset; frame = frame } ∷ reverse begun)
    × GoesOn (reading_at (reverse begun)) (reading_at (record { start = before.offset; frame = frame } ∷ reverse begun)) before behind
NextReads begun before behind (Ok (Big b)) = IsBig b × GoesOn (reading_at (reverse begun)) (reads_next (Number b) begun) before behind
NextReads begun before behind (Err fault) = (behind ≡ before) × ((fault ≡ Memory) ⊎ (reading_at (reverse begun) before ≡ Err fault))

-- twice as many as the bytes ahead, and one more before a magnitude, which may have no byte
abbrev pub steps_at : Stage → ℕ
steps_at (Number b) = 1
steps_at other = 0

abbrev pub ahead : TermReader → Position → ℕ
ahead r position = 2 * length position.left + steps_at r.stage

-- What is answered for a part that begins at an offset: the term of all that was begun, or that its next part is to be
-- read, or the fault; reading goes on so at whatever position.
abbrev pub Completes : (old new : List Begun) → ℕ → TermValue → Result (Option TermValue) EtfFault → Type 0
Completes old new start t (Ok (Some whole)) = (position : Position) → resume (reverse old) start t position ≡ Ok (whole, position)
Completes old new start t (Ok None) = IsNest new × ((position : Position) → resume (reverse old) start t position ≡ reading_at (reverse new) position)
Completes old new start t (Err fault) = (fault ≡ Memory) ⊎ ((fault ≢ Short) × ((position : Position) → resume (reverse old) start t position ≡ Err fault))

-- What is answered to a spelling, of which a part may have been read: its term, or the fault. Where the bytes end, reading
-- goes on with those that come.
abbrev pub ReaderReads : (old new : TermReader) → Position → Position → Result TermValue EtfFault → Type 0
ReaderReads old new before behind (Ok t) = reads_on old before ≡ Ok (t, behind)
ReaderReads old new before behind (Err fault) =
    ((fault ≡ Memory) ⊎ (reads_on old before ≡ Err fault)) × (fault ≡ Short → IsReader new × GoesOn (reads_on old) (reads_on new) before behind)

-- the same after one step, where more may be to read
abbrev pub StepReads : (old new : TermReader) → Position → Position → Result (Option TermValue) EtfFault → Type 0
StepReads old new before behind (Ok (Some whole)) = ReaderReads old new before behind (Ok whole)
StepReads old new before behind (Ok None) = IsReader new × GoesOn (reads_on old) (reads_on new) before behind
StepReads old new before behind (Err fault) = ReaderReads old new before behind (Err fault)
