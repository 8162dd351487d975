pub mod LatchParts
pub mod SinkPaths
