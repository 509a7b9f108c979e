-- Lemmas that several proofs share.
pub mod Places
pub mod Exponents
pub mod Whole
pub mod Elements
pub mod Allowing
pub mod Unpacked
pub mod Plain
pub mod PlainFronts
pub mod KeyPlaces
pub mod SingleKeys
pub mod OneObject
