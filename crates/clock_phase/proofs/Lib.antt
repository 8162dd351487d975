pub mod EarlierCells
pub mod Greatest
pub mod Levels
pub mod LevelsUpTo
pub mod PlanTrees
