pub mod FilterLemmas
pub mod SortLemmas
pub mod OrderLemmas
pub mod GroupLemmas
pub mod ComputedLemmas
mod SizeLemmas
mod SoundLemmas
mod OperatorLemmas
mod BoundLemmas
