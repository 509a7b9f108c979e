-- The definitions of this crate.
pub mod Meaning
pub mod Placing
pub mod Steps
pub mod Ahead
pub mod Entering
pub mod Coming
pub mod Below
pub mod Flushed
