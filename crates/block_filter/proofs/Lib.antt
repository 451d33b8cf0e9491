pub mod ConditionLemmas
pub mod LaneLemmas
pub mod PassingLemmas
pub mod NarrowLemmas
pub mod RowLemmas
pub mod FirstLemmas
