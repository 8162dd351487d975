-- The trees of a plan have the values of their roots.
pub use Rattle.compound_plan.proofs.PlanValues.{trees_have_values}
