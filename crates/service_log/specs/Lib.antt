pub mod Lines
pub mod Work
pub mod Log
pub mod Laws
