pub mod ListenOptions
pub mod Listens
pub mod Laws
