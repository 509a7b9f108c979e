-- The definitions of this crate, one file for each idea.

-- ---- cited by public contracts
pub mod Layout
pub mod Header
pub mod HeaderCode
pub mod Block
pub mod View
pub mod Taken
pub mod Judgement
pub mod Fit
pub mod Gates
pub mod Stands
pub mod Images
pub mod GateWrites
pub mod BodyWrites
pub mod Packing
pub mod Free
pub mod Flush
-- ---- lemmas, for the crates above too
pub mod LayoutLaws
-- ---- what worked rows look into
pub mod Rows
