-- Lemmas that several proofs share.
pub mod NextSegment
pub mod Undone
pub mod Others
pub mod LastStep
pub mod Placed
pub mod Bridge
pub mod Parts
pub mod Few
pub mod Entered
pub mod Planned
pub mod Committed
pub mod Finished
