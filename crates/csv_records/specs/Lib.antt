pub mod Exchange
pub mod Lines
pub mod Worked
pub mod Written
