pub use Rattle.block_summary.specs.Ranges
pub use Rattle.row_eval.specs.Outcome
pub mod Known
pub mod Numbers
