-- The definitions of this crate.
pub mod Sparse
pub mod Places
pub mod Switching
pub mod Added
