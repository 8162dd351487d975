-- The circuit of a network, as the code makes it.
use Rattle.std.specs.Prelude.{ℕ, Bool, List, ◌++◌, length, map}
use Rattle.std.specs.List.{range_with_len, zip}
use Rattle.deck.specs.CircuitData.{CircuitData}
use Rattle.deck.specs.Escapes.{escaped}
use Rattle.deck.specs.NamedDevices.{with_devices}
use Rattle.deck.specs.Pushes.{new_circuit}
use Rattle.domino_cell.specs.declared.style.Style.{Style}
use Rattle.dual_rail.specs.declared.forest.End.{End}
use Rattle.sp_network.specs.declared.plan.GatePlan.{GatePlan}
use Rattle.network.specs.NetworkData.{NetworkData}
use Rattle.synth_flow.specs.BareDecks.{made_devices}
use Rattle.deck_form.specs.DeckNets.{data_net}
use Rattle.deck_form.specs.DominoDecks.{outs_of, pins_of, starts_of}
use Rattle.synth_flow.specs.SinkParts.{phase_of_sink}

-- the nets of the sinks of a network
abbrev pub sinks_of : NetworkData → List (List ℕ)
sinks_of network = outs_of network ++ map data_net (range_with_len 0 (length network.latches))

-- its circuit in cells of a style, with these signs, plans, ends and numbers of cells
abbrev pub made_deck : Style → NetworkData → ℕ → List Bool → List GatePlan → List End → List ℕ → CircuitData
made_deck style network clocks signs plans ends cells =
    with_devices (new_circuit (escaped network.name) (map phase_of_sink (zip (sinks_of network) signs)) clocks (pins_of network) (outs_of network))
    (made_devices style (pins_of network) (sinks_of network) (starts_of network) plans ends cells)
