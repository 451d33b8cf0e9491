pub mod Peer
pub mod Lingering
pub mod Slow
pub mod Sockets
pub mod Server
pub mod Sights
pub mod SlowValues
