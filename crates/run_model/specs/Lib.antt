-- ---- cited by public contracts
pub mod Command
pub mod Reply
pub mod State
pub mod StateCode
pub mod Opening
pub mod Changing
pub mod Closing
pub mod Step
pub mod History
pub mod Good
pub mod Stays
pub mod InMemory
-- ---- what worked rows write
pub mod Written
pub mod Rows
pub use Rattle.table_model.specs.Table
