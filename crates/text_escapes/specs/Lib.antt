pub mod Escapes
pub mod Laws
