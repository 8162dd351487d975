pub mod CompoundCells
pub mod PairCells
pub mod PairDevices
pub mod PlanCells
pub mod UndrivenNets
