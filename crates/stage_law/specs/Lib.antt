pub mod Laws
pub mod Precharged
pub mod Shut
