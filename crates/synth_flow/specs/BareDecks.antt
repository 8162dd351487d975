-- Decks without devices, as the code builds on them.
pub use Rattle.clock_phase.specs.Plans.{cell_plan}
use Rattle.std.specs.Prelude.{ℕ, ◌+◌, ◌*◌, ◌≤◌, ◌<◌, ◌≡◌, ◌++◌, ◌||◌, Bool, List, nat_eq, length, map, filter, Some, slice_get, All}
use Rattle.std.specs.List.{IsDistinct, list_any, range_with_len}
use Rattle.std.specs.Cmp.Lexicographic.{pointwise}
use Rattle.deck.specs.CircuitData.{CircuitData}
use Rattle.deck.specs.NamedDevices.{NamedDevice}
use Rattle.deck.specs.Ports.{IsOutput, IsPin}
use Rattle.deck.specs.Pushes.{new_circuit}
use Rattle.deck.specs.declared.phase.Phase.{Phase}
use Rattle.sp_network.specs.Tree.{EachLeaf}
use Rattle.sp_network.specs.TypedTree.{tree_of}
use Rattle.sp_network.specs.declared.plan.GatePlan.{GatePlan}
use Rattle.tree_map.specs.MappedCover.{plan_trees}
use Rattle.domino_cell.specs.declared.style.Style.{Style}
use Rattle.style_costs.specs.Styles.{cost_in}
use Rattle.dual_rail.specs.declared.forest.End.{End}
use Rattle.deck_form.specs.DeckNets.{complement_net, data_net, named_gate, own_net, sink_gate}
use Rattle.synth_flow.specs.MadeDecks.{cells_from, inverters, latches_from}
use Rattle.synth_flow.specs.NamedComplements.{are_read, is_plus_end}
use Rattle.synth_flow.specs.SinkParts.{end_in}

-- the circuit has the ports of a deck and no devices; the sinks are its outputs and the data of so many latches
pub record IsBareDeck (c : CircuitData) (latches : ℕ) (pins sinks : List (List ℕ)) (plans : List GatePlan) : Type 0 where
  pub clocks : ℕ
  pub name : List ℕ
  pub phases : List Phase
  pub outs : List (List ℕ)
  pub circuit_is : c ≡ new_circuit name phases clocks pins outs
  pub few_clocks : clocks ≤ 4
  pub pins_are : All IsPin pins
  pub outs_are : All IsOutput outs
  pub apart : IsDistinct (pointwise nat_eq) outs
  -- the clock of each plan is a port
  pub clocks_are : All (λ (p : GatePlan). (1 ≤ p.clock) × (p.clock ≤ clocks)) plans
  pub sinks_are : sinks ≡ outs ++ map data_net (range_with_len 0 latches)

-- The plans of cells over so many leaves. A forest has at most 800,000 cells, which cost at most 5,600,000; with chains of buffers there
-- are at most two more for each cell and one more for each of 8,192 sinks, and each costs 6.
pub record ArePlans (style : Style) (leaves : ℕ) (plans : List GatePlan) : Type 0 where
  pub few : length plans ≤ 2408192
  pub cheap : cost_in style (plan_trees plans) ≤ 15249152
  -- each reads rails of the leaves and cells before it
  pub earlier : (k : ℕ) (p : GatePlan) → slice_get plans k ≡ Some p → EachLeaf (λ gate. gate < 2 * leaves + k) (tree_of p.tree)

-- the nets of the first gates, so many, over so many leaves
abbrev pub gate_nets : List (List ℕ) → ℕ → ℕ → List (List ℕ)
gate_nets pins leaves gates = map (named_gate pins leaves) (range_with_len 0 gates)

-- the leaves whose complements are named
abbrev pub named_leaves : List GatePlan → List End → ℕ → List ℕ
named_leaves plans ends leaves = filter (λ leaf. are_read plans leaf || list_any (is_plus_end leaf) ends) (range_with_len 0 leaves)

-- the devices of a deck of these pins, sinks, start values, plans, ends and numbers of cells, group by group
abbrev pub made_devices : Style → List (List ℕ) → List (List ℕ) → List Bool → List GatePlan → List End → List ℕ → List (NamedDevice (List ℕ))
made_devices style pins sinks starts plans ends cells =
    cells_from style (gate_nets pins (length pins + length starts) (2 * (length pins + length starts) + length plans)) 0 plans
    ++ inverters (map (own_net pins) (named_leaves plans ends (length pins + length starts))) (map complement_net (named_leaves plans ends (length pins + length starts)))
    ++ latches_from 0 starts
    ++ inverters (map (sink_gate pins) (map (end_in cells) ends)) sinks
