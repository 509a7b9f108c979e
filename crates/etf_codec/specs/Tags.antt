-- What terms are in a spelling, and the tags that may begin them. This project's own.
use Rattle.std.specs.Prelude.{◌≡◌, ◌≢◌, ℕ, ◌<◌, ◌-◌, cond, ◌==◌, List, [], ◌∷◌, Result, Ok, Err}
use Rattle.dets_term.specs.TermValue.{TermValue}
use Rattle.etf_model.specs.declared.fault.EtfFault.{EtfFault}
use Rattle.etf_model.specs.declared.fault.EtfFault.TheVariants.{Unsupported, Compressed}
use Rattle.etf_model.specs.declared.tags.TheConstants.{COMPRESSED, STRING, LIST}
use Rattle.etf_model.specs.Format.{Format, Position}
use Rattle.etf_model.specs.Layout.{is_known}
use Rattle.etf_model.specs.Spelling.{term_with, part_at, tail_at, body_of}
use Rattle.etf_codec.specs.declared.frame.Begun.{Begun}
use Rattle.etf_codec.specs.declared.frame.Frame.{Frame}
use Rattle.etf_codec.specs.declared.frame.Frame.TheVariants.{Tail as TailFrame}
use Rattle.etf_codec.specs.declared.tags.Role.{Role}
use Rattle.etf_codec.specs.declared.tags.Role.TheVariants.{Outermost, Part, Tail}
use Rattle.etf_codec.specs.GoesOn.{GoesOn}

-- the terms of a role, with so many levels at and below them
abbrev pub terms_of : Role → ℕ → Format TermValue
terms_of Outermost levels = term_with is_known (λ term x. cond (x == COMPRESSED) (Compressed term) (Unsupported term x)) levels
terms_of Part levels = part_at levels
terms_of Tail levels = tail_at levels

-- the role of the next part of a begun term
abbrev pub next_in : Frame → Role
next_in (TailFrame ts) = Tail
next_in other = Part

abbrev pub next_role : List Begun → Role
next_role [] = Outermost
next_role (b ∷ begun) = next_in b.frame

-- What is answered for the tag at a position: a term of this role may begin with it, and reading goes on behind it, or the
-- fault. Levels are left.
abbrev pub TagReads : Role → Position → Position → Result ℕ EtfFault → Type 0
TagReads role before behind (Ok tag) =
    (levels : ℕ) → 0 < levels → GoesOn ((terms_of role levels).read before.offset) ((body_of (levels - 1) tag).read before.offset) before behind
TagReads role before behind (Err fault) = (levels : ℕ) → 0 < levels → (terms_of role levels).read before.offset before ≡ Err fault

-- a tail is no list with elements
abbrev pub BeginsTail : Role → Result ℕ EtfFault → Type 0
BeginsTail Tail (Ok tag) = (tag ≢ STRING) × (tag ≢ LIST)
BeginsTail other answer = Unit {0}
