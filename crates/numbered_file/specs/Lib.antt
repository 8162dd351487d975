pub mod NameNumbers
pub mod Numbered
pub mod NumberedData
pub mod OpenLists
pub mod Places
pub mod Slots
