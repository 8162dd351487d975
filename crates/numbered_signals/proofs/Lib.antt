pub mod BlockSteps
pub mod CardWords
pub mod MainPorts
pub mod NamePlaces
pub mod OrderedAll
pub mod Pairs
pub mod PartsByRoots
pub mod ScopeSteps
