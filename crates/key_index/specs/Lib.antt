pub mod Hashes
pub mod Key
pub mod Keys
pub mod Laws
pub mod Rising
pub mod Slots
pub mod Reading
