pub mod Watch
pub mod Serving
pub mod Limits
pub mod Command
pub mod Laws
pub mod Turns
