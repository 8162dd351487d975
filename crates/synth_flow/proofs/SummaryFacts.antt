-- What the chosen plan of a forest says of its cells, for their figures.
use Rattle.std.proofs.Common.{◌≡◌, ℕ, ◌≤◌, Bool, List, length, arith}
use Rattle.dual_rail.specs.ForestData.{ForestData}
use Rattle.dual_rail.specs.ForestOrder.{IsForest}
use Rattle.gate_decompose.specs.GatesData.{GatesData}
use Rattle.gate_decompose.specs.GatesOrder.{AreGates}
use Rattle.gate_decompose.proofs.GatesOrder.{gates_are_ordered}
use Rattle.phase_assign.specs.Signs.{AreChosen}
use Rattle.phase_assign.proofs.ChosenSigns.{chosen_settled}
use Rattle.sp_network.specs.Tree.{Tree}
use Rattle.tree_map.specs.Plans.{IsPlan, IsTreeOf, roots}
use Rattle.synth_flow.specs.CellCounts.{AreTreesOf}
use Rattle.deck_form.proofs.DeckForms.{all_zip_length}
use Rattle.synth_flow.proofs.SynthFacts.{few_trees, reads_earlier}

-- there is one chosen sign for each sink
pub one_sign : (gates : GatesData) (signs : List Bool) → AreGates gates → AreChosen gates signs → length signs ≡ length gates.sinks
one_sign gates signs are chosen = (chosen_settled gates (gates_are_ordered gates are.in_place) signs chosen).one_each

module _ (forest : ForestData) (kept : List Bool) (w h : ℕ) (trees : List (Tree ℕ)) (plan : IsPlan forest w h kept trees) (is : IsForest forest) where
  pub few_cells : length (roots kept) ≤ 800000
  few_cells = omega (arith, few_trees forest kept w h trees plan is, all_zip_length (IsTreeOf forest kept) (roots kept) trees plan.trees_are)

  pub are_trees : AreTreesOf forest kept trees
  are_trees = record {
    trees_are = plan.trees_are;
    earlier = reads_earlier forest kept w h trees plan is;
  }
