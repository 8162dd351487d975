-- The text of a deck by its parts.
use Rattle.std.specs.Prelude.{ℕ, List, [], ◌∷◌, ◌++◌, codes}
use Rattle.std.specs.List.{enumerate_from, flat_map}
use Rattle.deck.specs.NamedDevices.{NamedDevice}
use Rattle.deck.specs.Ports.{leading_ports}
use Rattle.deck.specs.declared.device.Device.{Device}
use Rattle.deck.specs.declared.phase.Phase.{Phase}
use Rattle.plan_text.specs.CalledTexts.{calls_of_groups, shapes_of_groups}
use Rattle.plan_text.specs.CardTexts.{named_cards}
use Rattle.spice_text.specs.Cells.{cell_lines}
use Rattle.spice_text.specs.Parts.{subckt_with}
use Rattle.spice_text.specs.Text.{deck_line, phase_line}

-- the lines before the first card of a device
abbrev pub deck_head : List ℕ → List Phase → ℕ → List (List ℕ) → List (List ℕ) → List ℕ
deck_head name phases clocks pins outs =
    (codes "* domsyn deck 1" ++ 10 ∷ [] ++ flat_map phase_line phases) ++ subckt_with name (leading_ports clocks) (pins ∷ outs ∷ [])

-- the text of a deck of these ports and devices
abbrev pub named_deck_text : List ℕ → List Phase → ℕ → List (List ℕ) → List (List ℕ) → List (NamedDevice (List ℕ)) → List ℕ
named_deck_text name phases clocks pins outs devices =
    deck_head name phases clocks pins outs ++ named_cards 0 devices ++ deck_line (codes ".ends") (name ∷ [])

-- the lines before the ports of a deck by cells of these shapes
abbrev pub cells_head : List Phase → List (List Device) → List ℕ
cells_head phases shapes = codes "* domsyn deck 2" ++ 10 ∷ [] ++ flat_map phase_line phases ++ flat_map cell_lines (enumerate_from 0 shapes)

-- the text by cells of a deck of these ports and groups of devices
abbrev pub grouped_deck_text : List ℕ → List Phase → ℕ → List (List ℕ) → List (List ℕ) → List (List (NamedDevice (List ℕ))) → List ℕ
grouped_deck_text name phases clocks pins outs groups =
    (cells_head phases (shapes_of_groups groups) ++ subckt_with name (leading_ports clocks) (pins ∷ outs ∷ []))
    ++ calls_of_groups groups ++ deck_line (codes ".ends") (name ∷ [])
