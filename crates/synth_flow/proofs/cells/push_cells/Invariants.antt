use Rattle.std.proofs.Common.{◌≡◌, ℕ, List, Option, take}
use Rattle.std.specs.Prelude.{codes}
use Rattle.deck.specs.CircuitData.{CircuitData}
use Rattle.deck.specs.NamedDevices.{with_devices}
use Rattle.sp_network.specs.declared.plan.GatePlan.{GatePlan}
use Rattle.domino_cell.specs.declared.names.CellNames.{CellNames}
use Rattle.domino_cell.specs.NetsAt.{AreNumbersAt}
use Rattle.domino_cell.specs.declared.style.Style.{Style}
use Rattle.synth_flow.specs.MadeDecks.{cells_from}
use Rattle.synth_flow.proofs.cells.push_cells.Given as goal

-- the cells of the first plans stand, the supplies have their names, and the nets of gates stand at the numbers that are held for them
pub record AreCells (style : Style) (old now : CircuitData) (names : List (List ℕ)) (plans : List GatePlan) (k : ℕ) (nets : CellNames)
    (numbers : List (Option ℕ)) : Type 0 where
  pub made : now ≡ with_devices old (cells_from style names 0 (take k plans))
  pub vdd : nets.vdd ≡ codes "vdd"
  pub vss : nets.vss ≡ codes "vss"
  pub held : AreNumbersAt now.nets names numbers

abbrev pub invariant-cells : goal.invariant-cells
invariant-cells l = AreCells l.style l.fn.circuit l.circuit l.names l.plans l.k l.nets l.numbers.items
