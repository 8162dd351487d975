-- The figures of a deck by the parts of it that the code holds.
use Rattle.std.specs.Prelude.{ℕ, ◌+◌, ◌*◌, ◌==◌, Bool, not, List, length, map}
use Rattle.std.specs.List.{count_by, range_with_len}
use Rattle.clock_phase.specs.Levels.{clock_of, greatest}
use Rattle.domino_cell.specs.declared.style.Style.{Style}
use Rattle.domino_cell.specs.declared.style.Style.TheVariants.{Keeper as WithKeeper, Precharge as WithPrecharge}
use Rattle.dual_rail.specs.ForestData.{ForestData}
use Rattle.dual_rail.specs.declared.forest.Pair.{Pair}
use Rattle.network.specs.NetworkData.{NetworkData}
use Rattle.style_costs.specs.Styles.{is_series}
use Rattle.synth_flow.specs.SummaryData.{SummaryData}

-- What a plan with so many cells of these pairs costs: each pair that is no root is kept, so a cell has one leaf more than it has pairs.
abbrev pub cost_of_plan : Style → List Pair → ℕ → ℕ
cost_of_plan WithKeeper pairs cells = length pairs + 6 * cells
cost_of_plan WithPrecharge pairs cells = length pairs + count_by is_series pairs + 5 * cells

-- how many levels have this clock, in a deck of so many clocks whose greatest level is given
abbrev pub levels_at_clock : ℕ → ℕ → List ℕ → ℕ → ℕ
levels_at_clock phases top levels clock = count_by (λ level. clock_of phases top level == clock) levels

-- the figures by the signs, the forest, the levels of the cells and what they cost in all, the leaves whose complements are named, and how
-- many nodes are needed in both signs
abbrev pub figures_by : NetworkData → ℕ → List Bool → ForestData → List ℕ → ℕ → List ℕ → ℕ → SummaryData
figures_by network phases signs forest levels whole named both = record {
  inputs = network.inputs;
  outputs = length network.outputs;
  latches = length network.latches;
  pairs = length forest.pairs;
  both = both;
  minus = count_by not signs;
  cells = length levels;
  levels = greatest levels;
  cost = whole;
  devices = whole + 2 * length named + 9 * length network.latches + 2 * (length network.outputs + length network.latches);
  clocks = map (levels_at_clock phases (greatest levels) levels) (range_with_len 1 phases);
}
