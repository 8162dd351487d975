pub mod PushedDecks
pub mod CompoundDecks
pub mod Laws
pub mod WorkedDeck
