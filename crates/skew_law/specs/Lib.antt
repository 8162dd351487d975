pub mod BufferedDecks
pub mod DominoForms
pub mod Laws
pub mod RootPairs
