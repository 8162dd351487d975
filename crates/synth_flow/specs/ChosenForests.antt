-- The chosen signs of the sinks of a network, and the forest of its gates under them.
use Rattle.std.specs.Prelude.{Bool, List}
use Rattle.dual_rail.specs.ForestData.{ForestData}
use Rattle.dual_rail.specs.Forests.{IsForestOf}
use Rattle.gate_decompose.specs.GateNodes.{AreGatesOf}
use Rattle.gate_decompose.specs.GatesData.{GatesData}
use Rattle.network.specs.NetworkData.{NetworkData}
use Rattle.phase_assign.specs.Signs.{AreChosen}

pub record IsChosenForest (network : NetworkData) (signs : List Bool) (forest : ForestData) : Type 0 where
  pub gates : GatesData
  pub are_gates : AreGatesOf network gates
  pub are_chosen : AreChosen gates signs
  pub is_forest : IsForestOf gates signs forest
