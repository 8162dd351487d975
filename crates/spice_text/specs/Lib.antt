pub mod Cells
pub mod GroupNets
pub mod Parts
pub mod ReadsBack
pub mod Shapes
pub mod Text
