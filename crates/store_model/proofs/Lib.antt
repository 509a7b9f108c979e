-- Lemmas that several proofs share.
pub mod Terms
pub mod OneTable
