pub use Rattle.odata_query.specs.Query as Queries
pub use Rattle.typed_trees.specs.TypedTree
pub use Rattle.row_eval.specs.Bounds
pub use Rattle.query_meaning.specs.Order
pub mod Plain
pub mod Items
