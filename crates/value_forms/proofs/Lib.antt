pub mod DateLemmas
pub mod RoundingLemmas
pub mod ScaleLemmas
