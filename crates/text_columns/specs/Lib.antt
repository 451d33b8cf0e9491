pub mod Texts
pub mod Places
pub mod Buffer
pub mod Search
pub mod Codes
pub mod Bounds
pub mod Plain
pub mod PlainParts
