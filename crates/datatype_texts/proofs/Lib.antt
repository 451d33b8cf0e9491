pub mod FormLemmas
pub mod ReadLemmas
