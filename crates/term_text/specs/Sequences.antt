-- What some bytes are as a character, as the code tells it.
use Rattle.text_model.specs.Reader.{Sequence, whole, part, wrong}
use Rattle.term_text.specs.declared.sequence.Bytes.{Bytes}
use Rattle.term_text.specs.declared.sequence.Bytes.TheVariants.{Whole, Part, Wrong}

abbrev pub sequence_of : Bytes → Sequence
sequence_of (Whole c) = whole c
sequence_of Part = part
sequence_of Wrong = wrong
