pub mod Rows
pub mod Inside
pub mod Selected
pub mod Kept
pub mod Ordered
pub mod Fronts
pub use Rattle.query_meaning.specs.Meaning
