-- Lemmas that several proofs share.
pub mod Chains
pub mod Cleared
pub mod Limited
pub mod MapBuilt
pub mod NodeKinds
pub mod PairParts
pub mod KeysAscend
pub mod Texts
pub mod Fronts
pub mod BitOrder
pub mod SortedPairs
