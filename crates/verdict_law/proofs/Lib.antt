pub mod NetworkReadings
pub mod OneClock
pub mod PortCycles
pub mod RightDecks
pub mod RightTraces
pub mod RightVerdicts
pub mod SameVerdicts
