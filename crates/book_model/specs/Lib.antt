-- The definitions of this crate.

-- ---- cited by public contracts
pub mod Book
pub mod Planning
pub mod LedgerOf
pub mod OfFile
pub mod LedgerOfFile
pub mod Flushing
pub mod Stopped
pub mod Below
-- ---- what worked rows look into
pub mod Scripts
