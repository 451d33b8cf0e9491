pub mod Offsets
pub mod OffsetList
pub mod Marks
