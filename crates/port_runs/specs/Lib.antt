pub mod Environment
pub mod Laws
pub mod LegalSteps
pub mod Moves
pub mod Order
pub mod Periods
pub mod PortRuns
pub mod Readings
