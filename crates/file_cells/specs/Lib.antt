pub mod Rows
pub mod Parts
pub mod Cells
pub mod Reading
pub mod Worked
