-- What a feed of spellings shows, and what the bytes of its stream mean.
use Rattle.std.specs.Prelude.{◌≡◌, ◌≢◌, ℕ, ◌≤◌, ◌<◌, ◌^◌, Bool, true, false, List, [], length, take}
use Rattle.feed_model.specs.Meaning.{goes_on, ends, breaks, InFront, a_term, no_term, Meaning}
use Rattle.feed_model.specs.Feed.{Feed}
use Rattle.etf_model.specs.declared.fault.EtfFault.{EtfFault}
use Rattle.etf_model.specs.declared.fault.EtfFault.TheVariants.{Short, LongTerm, Memory}
use Rattle.etf_model.specs.Answers.{IsFront}
use Rattle.etf_model.specs.Fronts.{Begins}
use Rattle.etf_model.specs.Spelling.{spelling, IsPart, IsBreak}

abbrev pub SpellingFeed : Type 0
SpellingFeed = Feed EtfFault

-- a spelling has at most so many bytes
abbrev pub longest : ℕ
longest = 2 ^ 24

-- the bytes among which the next spelling stands
abbrev pub front_of : SpellingFeed → List ℕ
front_of s = take longest s.left

-- A term where a front of at most 2 ^ 24 bytes spells it. Where none does, the stream goes on where the bytes are a part and more may
-- come, and ends where there are none and no more comes. Short where no more comes behind a part. LongTerm, with the offset of its
-- first byte, where 2 ^ 24 bytes are a part. Any other fault where a front breaks a rule with its last byte.
abbrev pub stands : (finished : Bool) (start : ℕ) (bytes : List ℕ) → InFront EtfFault → Type 0
stands finished start bytes (a_term t count) = IsFront spelling (take longest bytes) t count
stands finished start bytes (no_term goes_on) = (finished ≡ false) × (length bytes < longest) × IsPart bytes
stands finished start bytes (no_term ends) = (finished ≡ true) × (bytes ≡ [])
stands finished start bytes (no_term (breaks Short)) = (finished ≡ true) × (bytes ≢ []) × (length bytes < longest) × IsPart bytes
stands finished start bytes (no_term (breaks (LongTerm at))) = (at ≡ start) × (longest ≤ length bytes) × IsPart (take longest bytes)
stands finished start bytes (no_term (breaks Memory)) = ⊥
stands finished start bytes (no_term (breaks fault)) = Begins (λ front. IsBreak start front fault) (take longest bytes)

abbrev pub spellings : Meaning EtfFault
spellings = record { Stands = stands; memory = Memory }
