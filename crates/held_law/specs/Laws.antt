-- The laws of cells that hold what they have evaluated.
use Rattle.std.specs.Prelude.{List, ℕ, ◌≡◌}
use Rattle.dom_base.specs.declared.tri.Tri.TheVariants.{One}
use Rattle.deck.specs.CircuitData.{CircuitData}
use Rattle.deck.specs.Switches.{value_of}
use Rattle.deck.specs.declared.role.Roles.{Roles}
use Rattle.domino_cell.specs.Stage.{Spot}
use Rattle.switch_model.specs.LinksData.{LinksData, is_first, links_of}
use Rattle.port_runs.specs.Environment.{Step, World}
use Rattle.port_runs.specs.declared.clocking.Clocking.TheVariants.{Overlapping}
use Rattle.domino_law.specs.DominoDeck.{IsLooseDominoDeck}
use Rattle.domino_law.specs.Honest.{HasPreviousFallen}
use Rattle.domino_law.specs.LooseDeck.{IsLooseDeck, IsSpotOf}
use Rattle.domino_law.specs.Nets.{At, Clock, Dynamic, Net, Output, Part}
use Rattle.domino_law.specs.Places.{up_at}
use Rattle.domino_law.specs.Runs.{IsPower, Run}
use Rattle.domino_law.specs.Shape.{DominoCell, IsCellAt, Shape}
use Rattle.held_law.specs.HeldNets.{HeldNetsHoldTargets, IsAtTarget}

-- the part is a side of cell k, or its output
abbrev pub IsPartOfCell : ℕ → Part → Type 0
IsPartOfCell k (Dynamic side) = side.cell ≡ k
IsPartOfCell k (Output j) = j ≡ k
IsPartOfCell k _ = ⊥

-- in each state of a legal run from power each net of a cell with its clock at 1 holds its target, from the fall of the clock before
abbrev pub HeldCellsHoldTargets : Type 0
HeldCellsHoldTargets =
    (links : LinksData) (net : Net → ℕ) (s : Shape) (steps : List Step) (w w' : World) → IsLooseDeck links net s → IsPower links net s w
    → Run links net s steps w w' → (k : ℕ) (c : DominoCell) → IsCellAt s k c → value_of w'.values (net (Clock c.clock)) ≡ One
    → HasPreviousFallen (up_at w'.place w'.risen w'.fallen) c.clock
    → (part : Part) (a : Spot) → IsPartOfCell k part → IsSpotOf s part a
    → IsAtTarget links.devices (is_first links.sources) w'.values (net (At part a))

-- the nets of a loose domino deck whose clocks overlap do so, by its ports and its devices
abbrev pub DecksHoldTargets : Type 0
DecksHoldTargets =
    (c : CircuitData) (roles : Roles) (net : Net → ℕ) (s : Shape) → IsLooseDominoDeck roles (links_of c roles) net s
    → s.clocking ≡ Overlapping → HeldNetsHoldTargets c roles
