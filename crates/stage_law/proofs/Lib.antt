pub mod Backwards
pub mod Between
pub mod CellDevices
pub mod CellTargets
pub mod GateCards
pub mod Held
pub mod StageTargets
pub mod TappedTargets
