-- Lemmas that the laws and rows of this crate need.
pub mod Sharpness
pub mod Moving
pub mod SpellingSharp
pub mod Breaks
pub mod ByReading
pub mod Computing
pub mod WholeFormats
pub mod Unpacking
pub mod WholeLeaves
pub mod WholeTerms
pub mod CanonicalSpells
pub mod OneDecoding
pub mod FirstTerms
