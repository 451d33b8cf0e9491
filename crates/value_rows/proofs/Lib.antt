mod PackedLemmas
pub mod RowLaws
mod TextLemmas
