pub mod Show
pub mod Sheet
