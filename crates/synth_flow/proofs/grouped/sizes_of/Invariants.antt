use Rattle.std.proofs.Common.{◌≡◌, map, take}
use Rattle.style_costs.specs.Styles.{costs_of}
use Rattle.tree_map.specs.MappedCover.{plan_trees}
use Rattle.tree_map.specs.Plans.{tree_cost_by}
use Rattle.synth_flow.proofs.grouped.sizes_of.Given as goal

abbrev pub invariant-cells : goal.invariant-cells
invariant-cells l = l.sizes.items ≡ map (tree_cost_by (costs_of l.style)) (plan_trees (take l.plan-index l.plans))
