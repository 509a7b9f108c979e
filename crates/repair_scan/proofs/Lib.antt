-- Lemmas of this crate.
mod Standings
mod Judged
mod Steps
mod Shown
mod Ends
mod Counted
mod Closed
mod Reported
mod KeptKeys
