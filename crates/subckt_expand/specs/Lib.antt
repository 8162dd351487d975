pub mod Definitions
pub mod Frames
pub mod Live
pub mod StandsFor
pub mod Units
