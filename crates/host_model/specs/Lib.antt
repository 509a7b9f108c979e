-- ---- cited by public contracts: what is read, what a host shows and what its calls do, runs of calls, and the states of
-- the sources and hosts of this crate
pub mod Counts
pub mod Source
pub mod Disk
pub mod Host
pub mod Writes
pub mod Tearing
pub mod Images
pub mod Calls
pub mod MemSource
pub mod MemHost
pub mod FuseHost
pub mod PerfectHost
pub mod StdSource
pub mod FileHost
pub mod Untold
pub mod Restart
-- ---- a middle: the calls as the code keeps them
pub mod Log
-- ---- lemmas: on files, writes and runs, for the crates above too, and on the calls and restarts of a host in memory
pub mod Torn
pub mod WritesLaws
pub mod Leaves
pub mod CallLaws
pub mod RestartLaws
