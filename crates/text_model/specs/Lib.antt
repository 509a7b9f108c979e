-- ---- the grammar: tokens, how they are spelled, and which of them are a text of a term
pub mod Token
pub mod Characters
pub mod Spelling
pub mod Grammar
-- ---- the printed form of a term
pub mod Printed
-- ---- scripts: sentences, the faults of an input, and what stands behind the last term
pub mod Fronts
pub mod Sentence
pub mod Faults
pub mod Script
pub mod ScriptFronts
-- ---- feeds of printed terms, and what the bytes of their streams mean
pub mod TextFeed
-- ---- middles: the machine that takes tokens, and the one that reads bytes
pub mod Nest
pub mod Reader
pub mod Located
pub mod Progress
