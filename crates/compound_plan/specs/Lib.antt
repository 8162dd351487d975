pub mod Bounds
pub mod CellPlans
pub mod CellValues
pub mod OrdinaryPlans
pub mod PlanParts
pub mod PlanTrees
pub mod PlanValues
pub mod Plans
