pub mod CardPlaces
pub mod KindPlaces
pub mod NumberLists
pub mod PartCards
