pub mod Resource
pub mod Options
pub mod Path
pub mod Fault
pub mod Reading
pub mod Query
pub mod Request
pub mod Laws
