-- The definitions of this crate.
pub mod PendingState
pub mod Waiting
