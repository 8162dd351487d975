pub mod KeptNumbers
pub mod Gathered
pub mod ModelNames
pub mod Placing
pub mod Searches
pub mod Weights
pub mod FormalNames
pub mod LostFormals
