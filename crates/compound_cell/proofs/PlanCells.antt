-- What is said of the clock and the trees of a plan, and of those of a simple one.
use Rattle.std.proofs.Common.{◌≡◌, ℕ, List, ap, subst, sym, ◌∙◌}
use Rattle.deck.specs.CircuitData.{CircuitData}
use Rattle.deck.specs.NamedDevices.{with_devices}
use Rattle.deck.specs.Nets.{net_name}
use Rattle.sp_network.specs.Tree.{Tree}
use Rattle.domino_cell.specs.NamedTrees.{named_tree}
use Rattle.domino_cell.specs.PushedNames.{numbered_cell}
use Rattle.domino_cell.specs.StyledCells.{styled_cell}
use Rattle.domino_cell.specs.declared.style.Style.TheVariants.{Precharge as WithPrecharge}
use Rattle.compound_plan.specs.CellPlans.{clock_of, trees_of}
use Rattle.compound_plan.specs.declared.cell_plan.CellPlan.{CellPlan}
use Rattle.compound_plan.specs.Plans.{CellTrees, Simple}
use Rattle.compound_cell.specs.CompoundCells.{named_cell}
use Rattle.compound_cell.proofs.CompoundCells.{simple_cells_are_styled}

-- what holds of one plan holds of the same
pub to_plan : (P : ℕ → CellTrees → Type 0) (plan other : CellPlan) → plan ≡ other → P (clock_of other) (trees_of other) → P (clock_of plan) (trees_of plan)
to_plan P plan other same = subst (λ q. P (clock_of q) (trees_of q)) (sym same)

pub from_plan : (P : ℕ → CellTrees → Type 0) (plan other : CellPlan) → plan ≡ other → P (clock_of plan) (trees_of plan) → P (clock_of other) (trees_of other)
from_plan P plan other same = subst (λ q. P (clock_of q) (trees_of q)) same

-- the devices of a simple cell
pub simple_devices : (names : List (List ℕ)) (clock k : ℕ) (tree : Tree ℕ) (old new : CircuitData)
    → new ≡ with_devices old (styled_cell WithPrecharge (numbered_cell clock k) (named_tree names tree))
    → new ≡ with_devices old (named_cell (net_name names) clock k (Simple tree))
simple_devices names clock k tree old new is = is ∙ ap (with_devices old) (sym (simple_cells_are_styled (net_name names) clock k tree))
