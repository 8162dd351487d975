pub mod ClockedCells
pub mod MadeCells
pub mod MadeDecks
pub mod MadeSinks
pub mod WholePlans
