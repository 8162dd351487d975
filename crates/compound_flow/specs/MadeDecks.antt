-- The circuit of a network with compound cells, as the code makes it.
use Rattle.std.specs.Prelude.{Bool, List, length, map, ℕ, ◌*◌, ◌++◌, ◌+◌}
use Rattle.std.specs.List.{zip}
use Rattle.deck.specs.CircuitData.{CircuitData}
use Rattle.deck.specs.Escapes.{escaped}
use Rattle.deck.specs.NamedDevices.{NamedDevice, with_devices}
use Rattle.deck.specs.Nets.{net_name}
use Rattle.deck.specs.Pushes.{new_circuit}
use Rattle.network.specs.NetworkData.{NetworkData}
use Rattle.compound_plan.specs.Plans.{CellTrees}
use Rattle.deck_form.specs.DeckNets.{SinkEnd, complement_net, own_net}
use Rattle.deck_form.specs.DominoDecks.{outs_of, pins_of, starts_of}
use Rattle.synth_flow.specs.BareDecks.{gate_nets}
use Rattle.synth_flow.specs.MadeCircuits.{sinks_of}
use Rattle.synth_flow.specs.MadeDecks.{inverters, latches_from}
use Rattle.synth_flow.specs.SinkParts.{phase_of_sink}
use Rattle.compound_flow.specs.MadeCells.{named_cells}
use Rattle.compound_flow.specs.MadeSinks.{sink_gates}

-- the devices of a deck of these pins, sinks, start values, cells, complements and ends, group by group
abbrev pub compound_devices : List (List ℕ) → List (List ℕ) → List Bool → List (CellTrees × ℕ) → List ℕ → List SinkEnd
    → List (NamedDevice (List ℕ))
compound_devices pins sinks starts cells complements ends =
    named_cells (net_name (gate_nets pins (length pins + length starts) (2 * (length pins + length starts) + length cells))) 0 cells
    ++ inverters (map (own_net pins) complements) (map complement_net complements)
    ++ latches_from 0 starts
    ++ sink_gates pins cells sinks ends

-- the circuit of a network with these signs, cells, complements and ends
abbrev pub compound_circuit : NetworkData → ℕ → List Bool → List (CellTrees × ℕ) → List ℕ → List SinkEnd → CircuitData
compound_circuit network phases signs cells complements ends =
    with_devices
    (new_circuit (escaped network.name) (map phase_of_sink (zip (sinks_of network) signs)) phases (pins_of network) (outs_of network))
    (compound_devices (pins_of network) (sinks_of network) (starts_of network) cells complements ends)
