pub mod TypedTree
pub mod CanFault
pub mod Plain
