pub mod AbsentFaults
pub mod Accepting
pub mod Marking
pub mod NamePlaces
pub mod Owned
pub mod PartUses
pub mod PortRows
pub mod Refusing
