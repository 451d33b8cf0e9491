pub mod TestLemmas
pub mod KnownLemmas
pub mod NumberLemmas
