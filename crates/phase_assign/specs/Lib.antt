pub mod ArmsData
pub mod LookedPairs
pub mod Refusals
pub mod Search
pub mod Signs
pub mod Trials
pub mod Uses
pub mod Wiring
