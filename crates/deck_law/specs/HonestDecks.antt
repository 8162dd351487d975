-- The honest states of decks (Rabaey, Digital Integrated Circuits: domino logic), by the ports of their circuits: of right decks of
-- texts, and of the circuits of networks, whatever they are written as.
use Rattle.std.specs.Prelude.{List, [], codes, length, map, ℕ, ◌++◌, ◌∷◌, ◌≡◌, ◌≤◌, ◌⊎◌}
use Rattle.std.specs.List.{AllByRecursion}
use Rattle.net_run.specs.Runs.{start}
use Rattle.deck.specs.CircuitData.{CircuitData}
use Rattle.deck.specs.Nets.{IsCircuit}
use Rattle.deck.specs.Switches.{value_of}
use Rattle.deck.specs.declared.role.Roles.{Roles}
use Rattle.domino_cell.specs.Stage.{Top}
use Rattle.domino_cell.specs.declared.style.Style.{Style}
use Rattle.switch_model.specs.LinksData.{links_of}
use Rattle.network.specs.NetworkData.{NetworkData}
use Rattle.network.specs.Networks.{IsNetwork}
use Rattle.port_runs.specs.Environment.{Released, Reset, Step, World, bit}
use Rattle.port_runs.specs.declared.clocking.Clocking.{Clocking}
use Rattle.port_runs.specs.declared.clocking.Clocking.TheVariants.{Together}
use Rattle.port_runs.specs.PortRuns.{DoesBy, Rests, RunsBy}
use Rattle.port_runs.specs.Readings.{HasResetBy, IsReading}
use Rattle.domino_law.specs.DominoDeck.{IsLooseDominoDeck}
use Rattle.domino_law.specs.Laws.{HasOwnValues}
use Rattle.domino_law.specs.Nets.{At, Net, Slave}
use Rattle.domino_law.specs.Runs.{IsHonestWorld}
use Rattle.domino_law.specs.Settings.{HaveRisen}
use Rattle.domino_law.specs.Shape.{IsLatchAt, Latch, Shape}
use Rattle.deck_form.specs.ChosenDecks.{IsPlannedDeck}
use Rattle.deck_form.specs.DeckOptions.{DeckOptions}
use Rattle.deck_law.specs.Headline.{IsRightDeck, ReadsCycle, latch_values, roles_of}
use Rattle.deck_law.specs.OwnRuns.{RunsAsNetwork}

-- what holds of the honest states of a circuit that is a loose domino deck of this shape, where `net` numbers its nets
pub record IsHonestCircuit (c : CircuitData) (roles : Roles) (net : Net → ℕ) (s : Shape) : Type 0 where
  pub deck : IsLooseDominoDeck roles (links_of c roles) net s
  -- at the rest of reset and at every state beyond it a legal run is honest
  pub honest : (w : World) → HasResetBy s.clocking c roles w → IsHonestWorld (links_of c roles) net s w
  -- each event and each move takes an honest state, in which the clocks that have fallen had risen, to an honest state
  pub kept : (step : Step) (w w' : World) → length w.values ≡ length c.nets → HaveRisen w → IsHonestWorld (links_of c roles) net s w
      → DoesBy s.clocking c roles step w w' → IsHonestWorld (links_of c roles) net s w'
  -- at the rest of reset, and until the first pins are taken, each latch has its start value
  pub started : (steps : List Step) (w : World) → RunsBy s.clocking c roles steps w → ((w.place ≡ Reset) × Rests c roles w) ⊎ (w.place ≡ Released)
      → (j : ℕ) (b : Latch) → IsLatchAt s j b → value_of w.values (net (At (Slave j) Top)) ≡ bit b.init
  -- an honest rest of evaluation with all clocks up has the outputs and the next state of the deck's own run
  pub read : (w : World) → length w.values ≡ length c.nets → IsHonestWorld (links_of c roles) net s w → IsReading c roles w
      → HasOwnValues net s w

-- a shape whose clocks fall so and whose cells are of this style, and a numbering of the nets, for which that holds
pub record HasHonestStates (clocking : Clocking) (style : Style) (c : CircuitData) (roles : Roles) : Type 0 where
  pub net : Net → ℕ
  pub shape : Shape
  pub clocks_fall : shape.clocking ≡ clocking
  pub style_is : shape.style ≡ style
  pub honest : IsHonestCircuit c roles net shape

-- the same of the circuit of a network, whose run is the deck's own run
pub record IsHonestDeck (clocking : Clocking) (style : Style) (network : NetworkData) (c : CircuitData) (roles : Roles) : Type 0 where
  pub net : Net → ℕ
  pub shape : Shape
  pub clocks_fall : shape.clocking ≡ clocking
  pub style_is : shape.style ≡ style
  pub honest : IsHonestCircuit c roles net shape
  pub own : RunsAsNetwork network shape
  -- at the rest of reset, and until the first pins are taken, the nets `q0`, `q1` and so on have the latches' start values
  pub starts : (steps : List Step) (w : World) → RunsBy clocking c roles steps w → ((w.place ≡ Reset) × Rests c roles w) ⊎ (w.place ≡ Released)
      → latch_values c (codes "q") (length network.latches) w.values ≡ map bit (start network)
  -- an honest rest of evaluation with all clocks up has the network's outputs and next state
  pub reads : (w : World) → length w.values ≡ length c.nets → AllByRecursion (λ bits. length bits ≡ network.inputs) (w.past ++ w.pins ∷ [])
      → IsHonestWorld (links_of c roles) net shape w → IsReading c roles w → ReadsCycle network c roles (w.past ++ w.pins ∷ []) w.values

-- each right deck of a text is honest
abbrev pub RightDecksAreHonest : Type 0
RightDecksAreHonest =
    (blif : List ℕ) (options : DeckOptions) (deck : List ℕ) (right : IsRightDeck blif options deck)
    → HasHonestStates Together options.style right.circuit (roles_of right.network options.phases)

-- the circuit of any signs and any plan of a network is honest, whatever it is written as
abbrev pub PlannedCircuitsAreHonest : Type 0
PlannedCircuitsAreHonest =
    (network : NetworkData) (options : DeckOptions) (circuit : CircuitData) → IsNetwork network → 1 ≤ options.phases → options.phases ≤ 4
    → IsPlannedDeck network options circuit → IsCircuit circuit.ports circuit.nets circuit.devices
    → IsHonestDeck Together options.style network circuit (roles_of network options.phases)
