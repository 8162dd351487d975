pub mod Agree
pub mod Counts
pub mod Exchanged
pub mod Laws
