pub mod RawLemmas
pub mod QuoteBoundaries
pub mod RestLemmas
pub mod PartLemmas
