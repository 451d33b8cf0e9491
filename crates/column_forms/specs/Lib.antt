pub mod Choice
pub mod CellsSeen
