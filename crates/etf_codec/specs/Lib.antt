-- ---- cited by public contracts
pub use Rattle.etf_model.specs.Canonical
pub use Rattle.etf_model.specs.Decoding
pub use Rattle.etf_model.specs.Skipping
pub use Rattle.etf_model.specs.SpellingFeed
pub use Rattle.feed_model.specs.Feed
-- ---- middles: what a reader answers, and what is left to read of terms that are begun, by which the code reads part by part
pub mod Reads
pub mod ReadTerms
pub mod GoesOn
pub mod Machine
pub mod BigIntegers
pub mod Begun
pub mod Joins
pub mod Heads
pub mod TermReader
pub mod Tags
pub mod FeedInside
