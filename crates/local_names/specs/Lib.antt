pub mod AllPlaced
pub mod LocalNames
pub mod LostFormals
pub mod PartNames
pub mod PartWeights
pub mod Placed
pub mod Places
pub mod Units
