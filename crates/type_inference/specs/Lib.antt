pub mod CellReading
