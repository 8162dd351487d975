pub mod Balanced
pub mod Duals
pub mod Known
pub mod Laws
pub mod Tree
pub mod TypedTree
