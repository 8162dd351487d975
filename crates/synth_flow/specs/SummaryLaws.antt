-- How many devices the circuit that synthesis gives of a network has.
use Rattle.std.specs.Prelude.{◌+◌, ◌*◌, ◌≡◌, length, map}
use Rattle.deck.specs.CircuitData.{CircuitData}
use Rattle.network.specs.NetworkData.{NetworkData}
use Rattle.style_costs.specs.Styles.{cost_in}
use Rattle.deck_form.specs.ChosenDecks.{IsChosenDeck, end_at_cell}
use Rattle.deck_form.specs.AskedOptions.{deck_options}
use Rattle.deck_form.specs.DominoDecks.{cells_of, complements_of}
use Rattle.deck_form.specs.declared.options.SynthOptions.{SynthOptions}

-- the cost of the plan in its style, which is the devices of its cells, 2 devices for each complement, 9 for each latch and 2 for each sink
abbrev pub DevicesAreCounted : Type 0
DevicesAreCounted =
    (network : NetworkData) (options : SynthOptions) (circuit : CircuitData) (is : IsChosenDeck network (deck_options options) circuit)
    → length circuit.devices
    ≡ cost_in options.style is.trees
    + 2 * length (complements_of network (cells_of options.phases is.levels is.trees) (map (end_at_cell is.kept) is.forest.ends))
    + 9 * length network.latches
    + 2 * (length network.outputs + length network.latches)
