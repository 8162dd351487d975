-- Decks of a network with chains of buffers, whose clocks may overlap (Harris and Horowitz, Skew-tolerant domino circuits).
use Rattle.domino_cell.specs.declared.style.Style.TheVariants.{Keeper as WithKeeper}
use Rattle.std.specs.Prelude.{Bool, List, [], map, ℕ, ◌∷◌, ◌≡◌}
use Rattle.deck.specs.CircuitData.{CircuitData}
use Rattle.sp_network.specs.Tree.{Tree}
use Rattle.gate_decompose.specs.GatesData.{GatesData}
use Rattle.gate_decompose.specs.Sinks.{leaf_count}
use Rattle.network.specs.NetworkData.{NetworkData}
use Rattle.phase_assign.specs.Signs.{AreChosen}
use Rattle.phase_buffer.specs.BufferedPlans.{DeckPlan, plan_cells}
use Rattle.phase_buffer.specs.Chains.{end_at, with_chains}
use Rattle.deck_form.specs.AskedOptions.{keeper_options}
use Rattle.deck_form.specs.ChosenDecks.{IsDeckOfSigns, IsPlannedDeck, end_at_cell, planned, with_signs}
use Rattle.deck_form.specs.DeckNets.{Fixed, OfDynamic, OfLeaf, OfOutput, SinkEnd}
use Rattle.deck_form.specs.DominoDecks.{cells_of, deck_circuit}
use Rattle.deck_form.specs.declared.options.SynthOptions.{SynthOptions}
use Rattle.tree_map.specs.declared.bounds.Bounds.{Bounds}

-- the cells from which the sinks of these ends take
abbrev pub cells_taken : List SinkEnd → List ℕ
cells_taken [] = []
cells_taken (OfDynamic k ∷ ends) = k ∷ cells_taken ends
cells_taken (OfOutput k ∷ ends) = k ∷ cells_taken ends
cells_taken (end ∷ ends) = cells_taken ends

-- a sink that takes from the cell with another number
abbrev pub renumbered : (ℕ → ℕ) → SinkEnd → SinkEnd
renumbered number (Fixed b) = Fixed b
renumbered number (OfLeaf leaf plus) = OfLeaf leaf plus
renumbered number (OfDynamic k) = OfDynamic (number k)
renumbered number (OfOutput k) = OfOutput (number k)

-- a sink takes from the last of the chain
abbrev pub new_end : DeckPlan → SinkEnd → SinkEnd
new_end p = renumbered (end_at (plan_cells p))

-- the plan of a network with these trees, levels and ends
abbrev pub plan_of : NetworkData → ℕ → List (Tree ℕ) → List ℕ → List SinkEnd → DeckPlan
plan_of network phases trees levels ends =
    record { leaves = leaf_count network; clocks = phases; cells = cells_of phases levels trees; sinks = cells_taken ends }

-- the circuit of a network with the chains of this plan of it, and these signs and ends
abbrev pub buffered_circuit : NetworkData → ℕ → List Bool → List SinkEnd → DeckPlan → CircuitData
buffered_circuit network phases signs ends p =
    deck_circuit WithKeeper network phases (with_chains (plan_cells p) 0 p.cells) signs (map (new_end p) ends)

-- the circuit is that of a plan of the network with its chains of buffers: of the forest of any signs and any plan of it within the
-- bounds
pub record IsBufferedDeck (network : NetworkData) (options : SynthOptions) (circuit : CircuitData) : Type 0 where
  -- the circuit without buffers
  pub plain : CircuitData
  pub planned : IsPlannedDeck network (keeper_options options) plain
  pub circuit_is : circuit ≡ buffered_circuit network options.phases planned.signs (map (end_at_cell planned.kept) planned.forest.ends)
      (plan_of network options.phases planned.trees planned.levels (map (end_at_cell planned.kept) planned.forest.ends))

-- the same of signs that are as wanted and the chosen plan
pub record IsBufferedDeckOfSigns (AreSigns : GatesData → List Bool → Type 0) (network : NetworkData) (options : SynthOptions) (circuit : CircuitData) : Type 0 where
  pub plain : CircuitData
  pub of_signs : IsDeckOfSigns AreSigns network (keeper_options options) plain
  pub circuit_is : circuit ≡ buffered_circuit network options.phases of_signs.signs (map (end_at_cell of_signs.kept) of_signs.forest.ends)
      (plan_of network options.phases of_signs.trees of_signs.levels (map (end_at_cell of_signs.kept) of_signs.forest.ends))

-- the circuit that synthesis gives of the network for clocks that overlap: of the chosen signs and the chosen plan
abbrev pub IsChosenBufferedDeck : NetworkData → SynthOptions → CircuitData → Type 0
IsChosenBufferedDeck network options circuit = IsBufferedDeckOfSigns AreChosen network options circuit

-- its bounds and clocks
abbrev pub skew_options : Bounds → ℕ → SynthOptions
skew_options bounds phases = record { bounds = bounds; phases = phases; style = WithKeeper }

-- a circuit of signs and the chosen plan is one of any signs and any plan
abbrev pub buffered_planned : {AreSigns : GatesData → List Bool → Type 0} {network : NetworkData} {options : SynthOptions} {circuit : CircuitData}
    → IsBufferedDeckOfSigns AreSigns network options circuit → IsBufferedDeck network options circuit
buffered_planned is = record { plain = is.plain; planned = planned is.of_signs; circuit_is = is.circuit_is }

-- and one of signs of which more is known
abbrev pub buffered_with_signs : {AreSigns AreOthers : GatesData → List Bool → Type 0} {network : NetworkData} {options : SynthOptions} {circuit : CircuitData}
    → (is : IsBufferedDeckOfSigns AreSigns network options circuit) → AreOthers is.of_signs.gates is.of_signs.signs
    → IsBufferedDeckOfSigns AreOthers network options circuit
buffered_with_signs is are = record { plain = is.plain; of_signs = with_signs is.of_signs are; circuit_is = is.circuit_is }
