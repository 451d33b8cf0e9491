pub use Rattle.odata_parse.specs.Tree as Trees
pub use Rattle.odata_types.specs.Columns
pub use Rattle.typed_trees.specs.TypedTree
pub mod Key
pub mod KeyValues
pub mod Selection
pub mod FirstSeen
pub mod Aggregate
pub mod Apply
pub mod Query
pub mod Laws
pub mod Worked
