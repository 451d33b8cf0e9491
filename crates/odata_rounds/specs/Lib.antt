pub mod Peers
pub mod Comes
pub mod Visits
pub mod Sights
pub mod Laws
pub mod Leaves
pub mod Lives
