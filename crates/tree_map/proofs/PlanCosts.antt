-- What a plan costs: seven for each pair, less six for each kept edge.
use Rattle.std.proofs.Common.{◌≡◌, refl, ℕ, ◌+◌, ◌*◌, List, Bool, length, arith}
use Rattle.sp_network.specs.Tree.{Tree}
use Rattle.cover_plan.specs.Covers.{ordinary_costs}
use Rattle.dual_rail.specs.ForestData.{ForestData}
use Rattle.dual_rail.specs.ForestOrder.{AreInOrder}
use Rattle.compound_plan.proofs.OrdinaryCosts.{kept_total, ordinary_cost}
use Rattle.tree_map.specs.Plans.{IsPlan, cost}

pub plan_cost : (forest : ForestData) (kept : List Bool) → AreInOrder forest.pairs → (w h : ℕ) (trees : List (Tree ℕ)) → IsPlan forest w h kept trees
    → cost trees + 6 * kept_total forest kept ≡ 7 * length forest.pairs
plan_cost forest kept order w h trees plan = let is = ordinary_cost ordinary_costs forest kept order refl w h trees plan in omega (arith, is)
