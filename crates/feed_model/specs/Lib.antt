-- ---- cited by public contracts
pub mod Meaning
pub mod Feed
pub mod History
pub mod Stream
-- ---- lemmas for the crates above
pub mod Steady
pub mod OneAnswer
pub mod Histories
pub mod FirstTerms
pub mod Growth
pub mod Kept
