pub mod Laws
pub mod ReadsBack
