-- The root pairs of the cells of a deck with chains of buffers, and what their bits are in the run of its network (Puri, Bjorksten,
-- Rosser 1996; Harris and Horowitz, Skew-tolerant domino circuits).
use Rattle.std.specs.Prelude.{Bool, List, Some, [], length, map, slice_get, ℕ, ◌++◌, ◌∷◌, ◌≡◌, ◌≤◌}
use Rattle.std.specs.List.{AllByRecursion}
use Rattle.dom_base.specs.Tri.{opposite}
use Rattle.dom_base.specs.declared.tri.Tri.TheVariants.{One}
use Rattle.deck.specs.CircuitData.{CircuitData}
use Rattle.deck.specs.Switches.{value_of}
use Rattle.domino_cell.specs.Stage.{Top}
use Rattle.network.specs.NetworkData.{NetworkData}
use Rattle.net_run.specs.Runs.{Cycle, IsNetworkRun, IsValuation, start, value_at}
use Rattle.gate_decompose.specs.Needed.{signed}
use Rattle.gate_decompose.specs.Values.{AreNodeValues}
use Rattle.tree_map.specs.Plans.{roots}
use Rattle.port_runs.specs.Environment.{World, bit}
use Rattle.port_runs.specs.Readings.{HasResetBy}
use Rattle.port_runs.specs.declared.clocking.Clocking.TheVariants.{Overlapping}
use Rattle.domino_law.specs.Honest.{HasPreviousFallen}
use Rattle.domino_law.specs.Nets.{At, Clock, Dynamic, Net, left_side}
use Rattle.domino_law.specs.OwnRun.{bit_at, own_bit, state_after}
use Rattle.domino_law.specs.Places.{up_at}
use Rattle.domino_law.specs.Shape.{DominoCell, IsCellAt, Shape}
use Rattle.deck_form.specs.AskedOptions.{keeper_options}
use Rattle.deck_form.specs.ChosenDecks.{IsPlannedDeck, end_at_cell}
use Rattle.deck_form.specs.declared.options.SynthOptions.{SynthOptions}
use Rattle.deck_law.specs.Headline.{roles_of}
use Rattle.phase_buffer.specs.BufferedPlans.{DeckPlan, plan_cells}
use Rattle.phase_buffer.specs.Chains.{end_at, place}
use Rattle.synth_flow.specs.BufferedDecks.{plan_of}

-- the plan of a circuit without buffers
abbrev pub unbuffered_plan : (network : NetworkData) (options : SynthOptions) {plain : CircuitData}
    → IsPlannedDeck network (keeper_options options) plain → DeckPlan
unbuffered_plan network options planned =
    plan_of network options.phases planned.trees planned.levels (map (end_at_cell planned.kept) planned.forest.ends)

-- the pair, a node of the network's gates and a sign, whose tree the cell at this place has; that of a buffer is that of the cell that
-- begins its chain
pub record IsRootPair (network : NetworkData) (options : SynthOptions) {plain : CircuitData}
    (planned : IsPlannedDeck network (keeper_options options) plain) (at : ℕ) (pair : ℕ × Bool) : Type 0 where
  -- the cell without buffers that begins the chain
  pub begins : ℕ
  pub from : place (plan_cells (unbuffered_plan network options planned)) begins ≤ at
  pub to : at ≤ end_at (plan_cells (unbuffered_plan network options planned)) begins
  -- its root in the forest
  pub root : ℕ
  pub root_is : slice_get (roots planned.kept) begins ≡ Some root
  pub pair_is : slice_get planned.forest.origin root ≡ Some pair

-- the state after these cycles, from this one on
abbrev pub state_beyond : List Bool → List Cycle → List Bool
state_beyond state [] = state
state_beyond state (c ∷ cycles) = state_beyond c.next cycles

-- the values of all signals of the network in the cycle with these pins that follows a stream
pub record AreCycleValues (network : NetworkData) (past : List (List Bool)) (pins values : List Bool) : Type 0 where
  pub earlier : List Cycle
  pub run : IsNetworkRun network past earlier
  pub valuation : IsValuation network pins (state_beyond (start network) earlier) values

-- In each cycle of each run of the network its signals and the nodes of its gates have values, and each cell of the shape has as its bit
-- of the own run the value of its root pair: that of the pair's node, or the opposite for the sign minus.
abbrev pub HaveRootValues : (network : NetworkData) (options : SynthOptions) {plain : CircuitData}
    → IsPlannedDeck network (keeper_options options) plain → Shape → Type 0
HaveRootValues network options planned s =
    (past : List (List Bool)) (pins : List Bool) → AllByRecursion (λ bits. length bits ≡ network.inputs) (past ++ pins ∷ [])
    → (values : List Bool) × AreCycleValues network past pins values
    × (node : ℕ → Bool) × AreNodeValues planned.gates (value_at values) node
    × ((at : ℕ) (c : DominoCell) → IsCellAt s at c
    → (pair : ℕ × Bool) × IsRootPair network options planned at pair
    × (own_bit s (bit_at pins) (bit_at (state_after s past)) at ≡ signed pair.1 (node pair.0)))

-- the dynamic net of the cell at this place is the opposite of the value of its root pair in the cycle of the network's run
pub record HasRootValue (network : NetworkData) (options : SynthOptions) {plain : CircuitData}
    (planned : IsPlannedDeck network (keeper_options options) plain) (net : Net → ℕ) (w : World) (at : ℕ) : Type 0 where
  pub signals : List Bool
  pub are_signals : AreCycleValues network w.past w.pins signals
  pub node : ℕ → Bool
  pub are_nodes : AreNodeValues planned.gates (value_at signals) node
  pub pair : ℕ × Bool
  pub is_root : IsRootPair network options planned at pair
  pub dynamic_is : value_of w.values (net (At (Dynamic (left_side at)) Top)) ≡ opposite (bit (signed pair.1 (node pair.0)))

-- so it is in each legal run of a cell whose clock is 1, from the fall of the clock before its own on
abbrev pub CellsHoldRootValues : (network : NetworkData) (options : SynthOptions) {plain : CircuitData}
    → IsPlannedDeck network (keeper_options options) plain → CircuitData → (Net → ℕ) → Shape → Type 0
CellsHoldRootValues network options planned c net s =
    (w : World) → HasResetBy Overlapping c (roles_of network options.phases) w
    → AllByRecursion (λ bits. length bits ≡ network.inputs) (w.past ++ w.pins ∷ [])
    → (at : ℕ) (cell : DominoCell) → IsCellAt s at cell → value_of w.values (net (Clock cell.clock)) ≡ One
    → HasPreviousFallen (up_at w.place w.risen w.fallen) cell.clock → HasRootValue network options planned net w at
