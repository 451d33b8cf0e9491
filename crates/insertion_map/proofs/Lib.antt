mod PartLemmas
pub mod ListLaws
mod HashLemmas
mod KeyLemmas
