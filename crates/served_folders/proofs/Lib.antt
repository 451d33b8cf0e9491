pub mod DiskLemmas
pub mod Disks
pub mod FolderLemmas
pub mod FolderWith
