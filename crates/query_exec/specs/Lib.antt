pub use Rattle.table_store.specs.Table
pub use Rattle.table_store.specs.Block
pub use Rattle.query_plan.specs.Fitting
pub use Rattle.query_meaning.specs.Meaning
pub use Rattle.query_plan.specs.Plan as Plans
pub use Rattle.block_filter.specs.Passing
pub use Rattle.block_filter.specs.Conditions as Filters
pub mod Fault
pub mod Answer
pub mod Conditions
pub mod Steps
pub mod Items
pub mod Cutoffs
pub mod Sink
pub mod TopN
pub mod Run
pub mod RunKept
pub mod Admitted
