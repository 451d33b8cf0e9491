pub mod Raw
pub mod Between
pub mod Rows
pub mod Part
pub mod Laws
pub mod Values
