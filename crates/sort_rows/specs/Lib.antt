pub use Rattle.odata_query.specs.Query as Queries
pub use Rattle.typed_trees.specs.TypedTree
pub use Rattle.row_eval.specs.Bounds
pub use Rattle.query_meaning.specs.Filter
pub use Rattle.query_meaning.specs.Order
pub mod Numbers
pub mod Keys
pub mod Best
pub mod TextKeys
pub mod Cutoffs
pub mod Merge
pub mod Runs
pub mod Ranges
