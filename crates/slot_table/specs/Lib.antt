-- What contracts of this crate cite.
pub mod BySlot
pub mod Turns
