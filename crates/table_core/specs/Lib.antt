-- The definitions of this crate.
pub mod Opening
pub mod TableState
pub mod Flushing
pub mod Closing
pub mod Answering
pub mod Repairing
pub mod Below
