-- The groups of a domino deck's devices: one for each cell, complement, latch and sink, and the places at which they end.
use Rattle.std.specs.Prelude.{ℕ, ◌≡◌, ◌+◌, Bool, List, [], ◌∷◌, ◌++◌, length, map}
use Rattle.std.specs.List.{enumerate_from, zip}
use Rattle.deck.specs.CircuitData.{CircuitData}
use Rattle.deck.specs.NamedDevices.{NamedDevice}
use Rattle.domino_cell.specs.declared.style.Style.{Style}
use Rattle.network.specs.NetworkData.{NetworkData}
use Rattle.deck_form.specs.ChosenDecks.{end_at_cell, IsChosenDeck, IsPlannedDeck, planned}
use Rattle.deck_form.specs.DeckNets.{CellPlan, SinkEnd, named_complement, named_latch, named_sink, sink_nets, named_cell}
use Rattle.deck_form.specs.DeckOptions.{DeckOptions}
use Rattle.deck_form.specs.DominoDecks.{cells_of, complements_of, outs_of, pins_of, starts_of}

-- the cards of each cell, complement, latch and sink, in order
abbrev pub card_groups : Style → List (List ℕ) → List (List ℕ) → List Bool → List CellPlan → List ℕ → List SinkEnd
    → List (List (NamedDevice (List ℕ)))
card_groups style pins outs starts cells complements ends =
    map (named_cell style pins (length pins + length starts)) (enumerate_from 0 cells)
    ++ map (named_complement pins) complements
    ++ map named_latch (enumerate_from 0 starts)
    ++ map (named_sink pins) (zip (sink_nets outs starts) ends)

-- the places at which groups end, where the first begins at this one
abbrev pub ends_from : {X : Type 0} → ℕ → List (List X) → List ℕ
ends_from start [] = []
ends_from start (group ∷ groups) = (start + length group) ∷ ends_from (start + length group) groups

-- the places at which the groups of a network's deck with these cells and ends of sinks end
abbrev pub places_by : Style → NetworkData → List CellPlan → List SinkEnd → List ℕ
places_by style network cells ends =
    ends_from 0
    (card_groups style (pins_of network) (outs_of network) (starts_of network) cells (complements_of network cells ends) ends)

-- those of a planned deck
abbrev pub group_places : {network : NetworkData} {options : DeckOptions} {circuit : CircuitData}
    → IsPlannedDeck network options circuit → List ℕ
group_places {network} {options} is =
    places_by options.style network (cells_of options.phases is.levels is.trees) (map (end_at_cell is.kept) is.forest.ends)

-- the circuit that synthesis gives of the network, and the places at which the groups of its devices end
abbrev pub IsGroupedDeck : NetworkData → DeckOptions → CircuitData → List ℕ → Type 0
IsGroupedDeck network options circuit places = (is : IsChosenDeck network options circuit) × (places ≡ group_places (planned is))
