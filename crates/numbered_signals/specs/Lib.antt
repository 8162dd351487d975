pub mod PartRoots
pub mod ScopeBlocks
pub mod ScopeRoots
