pub mod CardsAt
pub mod KindPlaces
pub mod ListEnds
pub mod PartOrder
pub mod PartPlans
