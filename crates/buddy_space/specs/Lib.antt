-- ---- cited by public contracts
pub mod SpaceState
-- ---- what the body keeps
pub mod Marks
pub mod Pieces
