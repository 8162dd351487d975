pub mod CoverTables
pub mod Covers
pub mod Parts
