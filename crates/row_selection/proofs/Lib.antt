pub mod NumberLemmas
pub mod BitLemmas
pub mod MarkLemmas
