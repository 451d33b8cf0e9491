pub mod Value
pub mod Printed
pub mod Size
pub mod ReadBack
