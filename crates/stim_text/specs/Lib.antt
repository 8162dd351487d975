pub mod CycleLines
pub mod CycleRowData
pub mod Fronts
pub mod Laws
pub mod LinesRead
pub mod Rows
pub mod Stimuli
