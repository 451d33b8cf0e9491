mod BoundLemmas
mod BufferLemmas
mod CellLemmas
mod JoinLemmas
mod MarkLemmas
mod RangeLemmas
mod SkipLemmas
mod SpanLemmas
mod TotalLemmas
mod TypeLemmas
mod WidenLemmas
pub mod OneRangeLemmas
pub mod TypedNumberLemmas
