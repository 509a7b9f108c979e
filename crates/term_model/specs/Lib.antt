-- ---- cited by public contracts
pub mod TermValue
pub mod IsTerm
pub mod BitString
pub mod Order
pub mod Sorted
pub mod Pairs
pub mod Hash
pub mod Written
-- ---- lemmas
pub mod Orderings
pub mod OrderCode
pub mod Same
pub mod Adjacent
pub mod Sorting
pub mod PairSorts
pub mod Limits
