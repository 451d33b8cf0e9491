pub use Rattle.row_eval.specs.Comparison
pub use Rattle.row_eval.specs.Logic
pub use Rattle.row_eval.specs.Outcome
pub mod Lanes
pub mod Operands
pub mod Arithmetic
