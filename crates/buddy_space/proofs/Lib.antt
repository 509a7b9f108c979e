-- Lemmas that several proofs share.
pub mod Nests
pub mod Begun
pub mod Parted
pub mod Freed
pub mod Ranges
pub mod Stretches
pub mod Placing
pub mod Changes
pub mod Deferring
pub mod Written
pub mod States
