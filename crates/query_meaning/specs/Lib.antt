pub use Rattle.odata_types.specs.Columns
pub use Rattle.odata_query.specs.Query as Queries
pub use Rattle.typed_trees.specs.TypedTree
pub use Rattle.odata_types.specs.Input
pub mod Filter
pub mod Query
pub mod Order
pub mod Apply
pub mod Meaning
pub mod Fitting
pub mod Worked
pub mod Laws
