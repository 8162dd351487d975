-- The values of the gates of a plan's trees.
pub use Rattle.compound_plan.specs.PlanValues.{AreGateValues, TreesHaveValues}
