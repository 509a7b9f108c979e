-- ---- cited by public contracts
pub mod Sizes
pub mod Least
pub mod Runs
pub mod Apart
pub mod Ledger
pub mod LedgerCode
pub mod LedgerOrder
pub mod Scripts
pub mod Slots
