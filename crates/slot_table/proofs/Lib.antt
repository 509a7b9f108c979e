-- Lemmas that several proofs share.
pub mod Powers
pub mod Fewer
pub mod Tables
pub mod Picked
pub mod Steps
pub mod Splitting
pub mod Totals
pub mod Apart
pub mod Found
pub mod Entering
pub mod Keeping
