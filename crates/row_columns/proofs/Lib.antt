pub mod BlockLemmas
pub mod NumberLemmas
pub mod ChunkLemmas
pub mod PieceLemmas
pub mod StoreLemmas
pub mod CodeLemmas
pub mod PackedLemmas
pub mod RowLemmas
pub mod NumberedLaws
mod ValueLemmas
