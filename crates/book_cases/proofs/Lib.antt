-- The lemmas of this crate.
mod Rest
mod OneObject
mod Waits
mod Another
