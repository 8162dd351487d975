-- What plans cost in each style of cells: with keepers, or with inner nets that are precharged (Zhao, Sapatnekar 1998).
use Rattle.std.specs.Prelude.{ℕ, ◌+◌, ◌*◌, ◌≡◌, Bool, true, false, List, length, count_by}
use Rattle.std.specs.List.{range_with_len}
use Rattle.sp_network.specs.Tree.{Tree}
use Rattle.domino_cell.specs.declared.style.Style.{Style}
use Rattle.domino_cell.specs.declared.style.Style.TheVariants.{Keeper as WithKeeper, Precharge as WithPrecharge}
use Rattle.dual_rail.specs.declared.forest.Pair.{Pair}
use Rattle.dual_rail.specs.declared.forest.Pair.TheVariants.{And, Or}
use Rattle.dual_rail.specs.ForestData.{ForestData}
use Rattle.dual_rail.specs.ForestOrder.{AreInOrder}
use Rattle.cover_plan.specs.Covers.{Costs, ordinary_costs}
use Rattle.tree_map.specs.Plans.{IsLeastPlanBy, IsPlan, cost_by, is_kept}

-- With a keeper a cell has a device for each leaf and 5 more: precharge, keeper, foot and the inverter's two. Where inner nets are
-- precharged it has one for each series node too, each of which has one inner net, and 4 more.
abbrev pub costs_of : Style → Costs
costs_of WithKeeper = ordinary_costs
costs_of WithPrecharge = record { series = 1; simple = 4; splits = false; compound = 0 }

-- the cost of a plan by its trees
abbrev pub cost_in : Style → List (Tree ℕ) → ℕ
cost_in style = cost_by (costs_of style)

-- a plan of least cost in a style
abbrev pub IsLeastPlanIn : Style → ForestData → ℕ → ℕ → List Bool → List (Tree ℕ) → Type 0
IsLeastPlanIn style = IsLeastPlanBy (costs_of style)

-- whether a pair is series
abbrev pub is_series : Pair → Bool
is_series (And a b) = true
is_series (Or a b) = false

-- how many edges a plan keeps
abbrev pub kept_edges : ForestData → List Bool → ℕ
kept_edges forest kept = count_by (is_kept kept) (range_with_len 0 (length forest.pairs))

-- what a plan of P pairs, A of them series, with K kept edges costs: 7 P less 6 K with keepers, 6 P and A less 5 K with precharged inner nets
pub record PlanCosts : Type 0 where
  pub keeper : (forest : ForestData) (w h : ℕ) (kept : List Bool) (trees : List (Tree ℕ)) → AreInOrder forest.pairs → IsPlan forest w h kept trees
      → cost_in WithKeeper trees + 6 * kept_edges forest kept ≡ 7 * length forest.pairs
  pub precharge : (forest : ForestData) (w h : ℕ) (kept : List Bool) (trees : List (Tree ℕ)) → AreInOrder forest.pairs → IsPlan forest w h kept trees
      → cost_in WithPrecharge trees + 5 * kept_edges forest kept ≡ 6 * length forest.pairs + count_by is_series forest.pairs
