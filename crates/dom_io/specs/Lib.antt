pub mod Asked
pub mod Faults
pub mod Held
pub mod Memory
pub mod Pieces
pub mod Sure
