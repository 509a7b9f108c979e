-- Lemmas that several proofs share.
pub mod Kept
pub mod Nodes
pub mod Words
