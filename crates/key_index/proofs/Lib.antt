pub mod ListLaws
pub mod KeyLemmas
pub mod AreKeysLemmas
pub mod SlotLemmas
pub mod RowLemmas
pub mod RisingLemmas
pub mod ReadingLemmas
