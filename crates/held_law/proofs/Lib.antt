pub mod CellNets
pub mod HeldCells
pub mod HeldPorts
pub mod HeldRuns
pub mod Settled
