-- The definitions of this crate, one file for each idea.
pub mod Faults
pub mod Found
pub mod Reports
-- ---- a middle: the scan, one open unit after another
pub mod KeyHash
pub mod Candidates
pub mod TakenKeys
pub mod Judgements
pub mod Progress
pub mod Filling
