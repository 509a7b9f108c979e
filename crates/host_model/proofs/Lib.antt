pub mod Appending
pub mod Filling
pub mod Goes
pub mod Kept
pub mod Moments
pub mod Patches
pub mod Again
pub mod WritesMade
