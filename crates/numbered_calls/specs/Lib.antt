pub mod BoundFormals
pub mod Owners
pub mod PortMarks
pub mod Refused
