pub mod Conversion
pub mod DraftCommand
