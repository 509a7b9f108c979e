-- ---- cited by public contracts
pub mod Job
pub mod InputFeed
pub mod Service
pub mod Run
pub mod Status
pub mod Report
pub mod Checking
-- ---- a middle: how a run goes on from term to term
pub mod Serving
-- ---- lemmas: what both kinds of inputs have in common
pub mod Inputs
