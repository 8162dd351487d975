pub mod BalancedExpressions
pub mod BalancedTrees
pub mod Duals
pub mod Known
pub mod TreeCounts
pub mod TreeImages
pub mod TreeTests
