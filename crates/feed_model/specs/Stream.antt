-- What a stream of bytes gives, whatever feed reads it: its terms one behind the other, and what stands behind the last. This
-- project's own.
use Rattle.std.specs.Prelude.{ℕ, ◌+◌, Bool, List, [], ◌∷◌, drop}
use Rattle.dets_term.specs.TermValue.{TermValue}
use Rattle.feed_model.specs.Meaning.{Behind, a_term, no_term, Meaning}

-- Bytes that begin at an offset give these terms, each in front of what the ones before it leave. Whether the input ends behind the
-- bytes is told.
abbrev pub IsStream : {F : Type 0} → Meaning F → (finished : Bool) (start : ℕ) (bytes : List ℕ) → List TermValue → Behind F → Type 0
IsStream m finished start bytes [] behind = m.Stands finished start bytes (no_term behind)
IsStream m finished start bytes (t ∷ ts) behind =
    (count : ℕ) × m.Stands finished start bytes (a_term t count) × IsStream m finished (start + count) (drop count bytes) ts behind
