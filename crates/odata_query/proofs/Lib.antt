pub mod FirstSeenLemmas
pub mod ColumnLemmas
mod KeyLemmas
