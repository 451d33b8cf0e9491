pub mod WindowLemmas
pub mod KeptLemmas
pub mod CellLemmas
pub mod KeyLemmas
pub mod CheckLemmas
pub mod SchemaLemmas
pub mod OrderLemmas
pub mod FolderCheckLemmas
