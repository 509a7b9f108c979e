-- The definitions of this crate, one file for each idea.
pub mod Refusal
pub mod Unpacking
pub mod Single
