pub mod Folders
pub mod Steps
pub mod Loads
pub mod Disk
pub mod Names
pub mod Laws
