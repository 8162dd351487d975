pub mod CardLines
pub mod FileLines
pub mod LineWords
pub mod NameBytes
pub mod TableRows
