-- The definitions of this crate, one file for each idea.
--
-- What bytes mean is said by formats. A format has three relations, which are the definition: the whole bytes of a
-- value, the bytes that end too early, and the bytes that break a rule with their last one. Beside them it has a
-- reading, the middle between the relations and the code: a function from a position in the bytes to the value and the
-- position behind it, or to the fault.

-- ---- definitions
pub mod Format
pub mod Fronts
pub mod Layout
pub mod Spelling
pub mod Canonical
pub mod Moved
pub mod Answers
pub mod Decoding
pub mod Skipping
pub mod SpellingFeed
-- ---- middles: that the reading of a format agrees with its relations, and that the last byte of a break is the first to
-- break a rule
pub mod Exact
pub mod Sharp
-- ---- lemmas, which the proofs of `etf_codec` need too
pub mod Kept
pub mod Exactness
pub mod StrayFaults
pub mod SpellingKept
pub mod SpellingExact
pub mod SkippingKept
pub mod SkippingExact
pub mod CanonicalWholes
pub mod Beginnings
pub mod SteadySpellings
