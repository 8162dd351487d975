pub mod Build
pub mod BuilderData
pub mod LatchWords
pub mod Steps
