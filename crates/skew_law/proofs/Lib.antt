pub mod BufferedCircuits
pub mod BufferedDecks
pub mod BufferedPlans
pub mod DominoForms
pub mod NamedPlans
pub mod PlannedShapes
pub mod RootValues
pub mod WorkedDecks
