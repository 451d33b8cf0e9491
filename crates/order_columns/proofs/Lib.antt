pub mod PlainLemmas
pub mod RepeatLemmas
pub mod ExtendedLemmas
pub mod ItemRowLemmas
pub mod KeepLemmas
