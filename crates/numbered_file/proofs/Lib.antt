pub mod Appended
pub mod FileSteps
pub mod Growth
pub mod ListSteps
pub mod PartLists
pub mod Places
pub mod SlotSteps
pub mod TableSteps
