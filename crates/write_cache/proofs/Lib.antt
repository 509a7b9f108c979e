-- Lemmas that several proofs share.
pub mod Keys
pub mod Seen
pub mod Totals
pub mod Exits
pub mod Order
pub mod LedgerLists
