-- ---- cited by public contracts
pub use Rattle.term_model.specs.TermValue
pub use Rattle.term_model.specs.IsTerm
pub use Rattle.term_model.specs.BitString
pub use Rattle.term_model.specs.Order
pub use Rattle.term_model.specs.Sorted
pub use Rattle.term_model.specs.Pairs
pub use Rattle.term_model.specs.Hash
pub use Rattle.term_model.specs.Written
pub mod Node
-- ---- middles: what the types of this crate keep, how their values are stored, and the order as the code finds it
pub mod Parts
pub mod TermCode
pub mod Fronts
-- ---- lemmas
pub use Rattle.term_model.specs.Orderings
pub use Rattle.term_model.specs.OrderCode
pub use Rattle.term_model.specs.Same
pub use Rattle.term_model.specs.Adjacent
pub use Rattle.term_model.specs.Sorting
pub use Rattle.term_model.specs.PairSorts
pub use Rattle.term_model.specs.Limits
pub mod PairFalls
pub mod NodeFalls
pub mod PairOrder
pub mod Building
