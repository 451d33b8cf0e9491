pub mod Windows
pub mod Cells
pub mod Checks
pub mod FolderChecks
