-- ---- cited by public contracts
pub mod MachineValue
-- ---- middles: what the commands of the code stand for, and what its table keeps
pub mod Command
pub mod Objects
