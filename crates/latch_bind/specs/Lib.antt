pub mod HeldNames
pub mod Latches
pub mod Sinks
