pub mod Breaks
pub mod Windows
