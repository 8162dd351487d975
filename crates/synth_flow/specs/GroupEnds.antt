-- The sizes of the groups of a deck's devices, and the places at which they end.
use Rattle.std.specs.Prelude.{ℕ, ◌+◌, List, [], ◌∷◌, ◌++◌, length, map, replicate}
use Rattle.domino_cell.specs.declared.style.Style.{Style}
use Rattle.dual_rail.specs.declared.forest.End.{End}
use Rattle.sp_network.specs.Tree.{Tree}
use Rattle.sp_network.specs.declared.plan.GatePlan.{GatePlan}
use Rattle.style_costs.specs.Styles.{costs_of}
use Rattle.tree_map.specs.MappedCover.{plan_trees}
use Rattle.tree_map.specs.Plans.{tree_cost_by}
use Rattle.synth_flow.specs.BareDecks.{named_leaves}

-- the places at which groups of these sizes end, where the first begins at this one
abbrev pub ends_of : ℕ → List ℕ → List ℕ
ends_of start [] = []
ends_of start (size ∷ sizes) = (start + size) ∷ ends_of (start + size) sizes

-- a cell has the devices that its tree costs in the style, a complement 2, a latch 9, and a sink 2
abbrev pub group_sizes : Style → List (Tree ℕ) → ℕ → ℕ → ℕ → List ℕ
group_sizes style trees complements latches sinks =
    map (tree_cost_by (costs_of style)) trees ++ replicate complements 2 ++ replicate latches 9 ++ replicate sinks 2

-- the sizes of the groups of a deck of these plans and ends in a style, over so many leaves, with so many latches
abbrev pub deck_sizes : Style → List GatePlan → List End → ℕ → ℕ → List ℕ
deck_sizes style plans ends leaves latches =
    group_sizes style (plan_trees plans) (length (named_leaves plans ends leaves)) latches (length ends)
