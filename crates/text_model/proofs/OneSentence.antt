-- Some bytes are a sentence of one term at most, and end in one place: the machine reads it.
use Rattle.std.proofs.Common.{◌≡◌, ℕ, List, ◌∙◌, sym}
use Rattle.dets_term.specs.TermValue.{TermValue}
use Rattle.text_model.specs.Sentence.{IsSentence}
use Rattle.text_model.proofs.Runs.{at_stop}
use Rattle.text_model.proofs.WellRead.{sentence_run}

same_stop : (t u : TermValue) (at end : ℕ) (rest other : List ℕ) → at_stop t at rest ≡ at_stop u end other → (t ≡ u) × (rest ≡ other)
same_stop t u at end rest other e = (cc, cc)

pub one_sentence : (t u : TermValue) (bytes rest other : List ℕ) → IsSentence t bytes rest → IsSentence u bytes other → (t ≡ u) × (rest ≡ other)
one_sentence t u bytes rest other s r =
    let a = sentence_run t bytes rest s in
    let b = sentence_run u bytes other r in
    same_stop t u a.0 b.0 rest other (sym a.2 ∙ b.2)
