pub mod Lines
pub mod Escapes
pub mod Command
pub mod Answers
pub mod Laws
