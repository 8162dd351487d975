pub mod AskedMethods
pub mod AskedOnce
pub mod Given
pub mod Lists
pub mod NumberWords
pub mod ProbeWords
pub mod Written
