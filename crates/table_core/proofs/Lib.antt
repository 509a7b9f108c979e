-- Lemmas that several proofs share.
pub mod Opened
pub mod Marked
pub mod Repaired
pub mod Answered
pub mod Loaded
pub mod MadeBook
pub mod OpenedFile
pub mod Flushed
pub mod Shut
pub mod ClosedBook
