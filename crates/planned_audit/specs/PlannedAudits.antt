-- The decks that synthesis plans get a yes, in any order of their devices, with drains and sources exchanged and inner nets numbered
-- anew at will (SPICE M cards).
use Rattle.std.specs.Prelude.{List, length, map, ℕ, ◌+◌, ◌<◌, ◌≡◌, ◌≤◌}
use Rattle.deck.specs.CircuitData.{CircuitData}
use Rattle.deck.specs.Nets.{IsCircuit}
use Rattle.deck.specs.PortLayout.{first_output}
use Rattle.deck.specs.declared.device.Device.{Device}
use Rattle.deck.specs.declared.role.Roles.{Roles}
use Rattle.sp_network.specs.Tree.{height, width}
use Rattle.domino_cell.specs.declared.style.Style.TheVariants.{Keeper as WithKeeper}
use Rattle.network.specs.NetworkData.{NetworkData}
use Rattle.network.specs.Networks.{IsNetwork}
use Rattle.deck_form.specs.AskedOptions.{keeper_options}
use Rattle.deck_form.specs.ChosenDecks.{IsPlannedDeck}
use Rattle.deck_form.specs.DominoDecks.{outs_of, pins_of}
use Rattle.deck_form.specs.NamedDecks.{IsNamedDeck}
use Rattle.deck_form.specs.declared.options.SynthOptions.{SynthOptions}
use Rattle.deck_law.specs.Laws.{roles_of_deck}
use Rattle.deck_audit.specs.Audits.{IsOrder, IsYes}
use Rattle.deck_audit.specs.OwnDecks.{greatest_of}

-- the device with its nets numbered anew
abbrev pub renumbered : (ℕ → ℕ) → Device → Device
renumbered f d = record { kind = d.kind; drain = f d.drain; gate = f d.gate; source = f d.source }

-- so many nets get numbers below a bound, no two the same, and ports keep theirs
pub record IsRenumbering (roles : Roles) (nets bound : ℕ) (f : ℕ → ℕ) : Type 0 where
  pub ports : (a : ℕ) → a < first_output roles + roles.outs → f a ≡ a
  pub apart : (a b : ℕ) → a < nets → b < nets → f a ≡ f b → a ≡ b
  pub within : (a : ℕ) → a < nets → f a < bound

-- the circuit has, in this order, the devices of the deck, each once, as it is or exchanged, with nets numbered anew
pub record IsReordered (roles : Roles) (deck c : CircuitData) (order : List ℕ) : Type 0 where
  pub anew : ℕ → ℕ
  pub renumbers : IsRenumbering roles (length deck.nets) (length c.nets) anew
  pub in_order : IsOrder c.devices order (map (renumbered anew) deck.devices)

abbrev pub NamedDecksGetYes : Type 0
NamedDecksGetYes =
    (deck : CircuitData) (d : IsNamedDeck WithKeeper deck) → IsCircuit deck.ports deck.nets deck.devices
    → (c : CircuitData) (order : List ℕ) → IsReordered (roles_of_deck WithKeeper deck d) deck c order
    → IsYes c (roles_of_deck WithKeeper deck d) order (length d.cells) (greatest_of (λ cell. width cell.tree) d.cells) (greatest_of (λ cell. height cell.tree) d.cells)

-- the roles of the ports of a deck of the network
abbrev pub roles_of_planned : NetworkData → ℕ → Roles
roles_of_planned network phases = record { clocks = phases; pins = length (pins_of network); outs = length (outs_of network) }

abbrev pub PlannedDecksGetYes : Type 0
PlannedDecksGetYes =
    (network : NetworkData) (options : SynthOptions) (deck : CircuitData) (is : IsPlannedDeck network (keeper_options options) deck)
    → IsNetwork network → 1 ≤ options.phases → options.phases ≤ 4 → IsCircuit deck.ports deck.nets deck.devices
    → (c : CircuitData) (order : List ℕ) → IsReordered (roles_of_planned network options.phases) deck c order
    → IsYes c (roles_of_planned network options.phases) order (length is.trees) (greatest_of width is.trees) (greatest_of height is.trees)
