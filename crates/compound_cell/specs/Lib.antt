pub mod CompoundCells
pub mod PushedCells
