pub mod CellDevices
pub mod CellOrder
pub mod ClockOrder
pub mod ClockPorts
pub mod DeckForms
pub mod DeckGroups
pub mod NameParts
pub mod SmallTrees
