pub mod Copying
pub mod ModelsToCome
pub mod PartWords
pub mod PartsToCome
pub mod RowPlaces
