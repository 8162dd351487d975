pub mod FoundDecks
