pub mod HeldNets
pub mod Laws
