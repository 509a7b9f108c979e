-- The definitions of this crate.
pub mod Stores
pub mod Keeping
pub mod Changing
