pub mod Fault
pub mod Escapes
pub mod OptionName
pub mod Cuts
pub mod Target
pub mod Laws
pub mod Worked
