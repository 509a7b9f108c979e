-- ---- cited by public contracts
pub mod Table
pub mod TableCode
pub mod Operations
pub mod Counter
pub mod Touched
pub mod Walk
pub mod Allowed
pub mod Filled
-- ---- lemmas
pub mod Sets
