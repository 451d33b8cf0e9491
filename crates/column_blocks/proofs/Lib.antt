pub mod TypedColumnLemmas
mod RangeLemmas
mod BlockLemmas
pub mod PartLemmas
