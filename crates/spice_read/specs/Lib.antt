pub mod Laws
pub mod FlatSubckts
pub mod Forms
pub mod Readers
pub mod ReadSubckts
