-- The definitions of this crate.

-- ---- cited by public contracts
pub mod Places
pub mod Answer
pub mod BlockHeads
pub mod Copies
pub mod Zeroed
