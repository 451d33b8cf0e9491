pub mod Hashes
pub mod LastPlaces
pub mod Places
