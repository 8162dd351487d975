pub mod Limits
pub mod ListPools
pub mod NetworkData
pub mod Networks
pub mod TablePools
