pub mod Conversion
pub mod Pieces
pub mod Rows
