pub use Rattle.odata_parse.specs.Tree as Trees
pub use Rattle.typed_trees.specs.TypedTree
pub mod Columns
pub mod Typing
pub mod Result
pub mod Schema
pub mod Input
pub mod KeyValue
pub mod Laws
pub mod Worked
