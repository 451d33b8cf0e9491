pub mod Decoders
pub mod Encodings
pub mod Windows1252
pub mod Worked
