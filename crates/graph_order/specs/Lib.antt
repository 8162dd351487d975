pub mod Components
pub mod ComponentSearches
pub mod Numbers
pub mod Orders
pub mod Traversals
pub mod WalkSums
