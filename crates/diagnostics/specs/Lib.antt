pub mod Text
pub mod Value
pub mod Refusal
