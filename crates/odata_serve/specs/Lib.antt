pub mod Program
pub mod Check
pub mod Listener
pub mod Serving
pub mod Words
pub mod Command
pub mod Laws
