pub use Rattle.odata_query.specs.Aggregate as Aggregates
pub use Rattle.query_meaning.specs.Apply
pub use Rattle.query_meaning.specs.Fitting
pub use Rattle.query_meaning.specs.Meaning
pub use Rattle.row_columns.specs.Columns
pub use Rattle.row_columns.specs.Kinds
pub use Rattle.row_columns.specs.Picked
pub mod Computed
pub mod Gathered
pub mod Parts
pub mod Groups
pub mod Sums
pub mod Distinct
pub mod Table
pub mod Tallies
pub mod Inside
