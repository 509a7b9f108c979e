-- Lemmas that several proofs share.
pub mod Serving
pub mod Runs
pub mod InputRuns
pub mod WholeInputs
pub mod Jobs
pub mod Checks
