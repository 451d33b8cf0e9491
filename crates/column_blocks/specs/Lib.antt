pub mod ColumnCells
pub mod BlockCells
pub mod TypedColumn
pub mod Readers
pub mod ColumnReader
pub mod Parts
