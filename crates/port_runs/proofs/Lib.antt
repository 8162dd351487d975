pub mod DynamicNets
pub mod GoingOn
pub mod Order
pub mod RunOrder
pub mod Steps
