pub mod Numbers
pub mod Marks
pub mod Selection
pub mod Worked
