-- Decks by names of any shape, of simple or compound cells: behind ports in the order of roles the cards of the shape (SPICE M cards).
use Rattle.std.specs.Prelude.{All, List, [], length, nat_eq, ℕ, ◌+◌, ◌<◌, ◌^◌, ◌≡◌}
use Rattle.std.specs.List.{IsDistinct}
use Rattle.std.specs.Cmp.Lexicographic.{pointwise}
use Rattle.deck.specs.CircuitData.{CircuitData}
use Rattle.deck.specs.Nets.{net_number}
use Rattle.deck.specs.Ports.{HasRoles}
use Rattle.deck.specs.Roles.{AreRoles, ports_of}
use Rattle.deck.specs.declared.role.Roles.{Roles}
use Rattle.sp_network.specs.Tree.{inner_count}
use Rattle.switch_model.specs.LinksData.{links_of}
use Rattle.domino_law.specs.DominoDeck.{IsLooseDominoDeck}
use Rattle.domino_law.specs.Nets.{CellSide}
use Rattle.domino_law.specs.Shape.{DynamicStage, IsShape, IsSideAt, Shape}
use Rattle.domino_law.specs.Spelled.{named_circuit}
use Rattle.deck_law.specs.NamesApart.{escaped_outs}
use Rattle.deck_law.specs.NetNames.{deck_name}

-- the numbers in the names of the shape's nets are below 2 ^ 64
pub record AreSmall (s : Shape) : Type 0 where
  pub cells : length s.cells < 2 ^ 64
  pub inner : (k : CellSide) (c : DynamicStage) → IsSideAt s k c → 1 + inner_count c.tree < 2 ^ 64
  pub latches : s.pins + length s.latches < 2 ^ 64

-- a circuit of ports alone, those of a deck of this shape: in the order of roles, with these pins and the escapes of the outputs' names
pub record AreDeckPorts (ports : CircuitData) (roles : Roles) (pins names : List (List ℕ)) (s : Shape) : Type 0 where
  pub no_devices : ports.devices ≡ []
  pub all_ports : ports.ports ≡ length ports.nets
  pub in_order : HasRoles ports.nets roles.clocks pins (escaped_outs names)
  pub apart : IsDistinct (pointwise nat_eq) ports.nets
  pub bytes : All (λ name. All (λ b. b < 256) name) names
  pub pin_count : length pins ≡ roles.pins
  pub out_count : length (escaped_outs names) ≡ roles.outs
  pub clocks_are : s.clocks ≡ roles.clocks
  pub pins_are : s.pins ≡ roles.pins
  pub outs_are : length s.outputs ≡ roles.outs

-- behind such ports the shape's cards, by the names of its nets, are a loose domino deck of the shape
abbrev pub ShapeDecksAreLoose : Type 0
ShapeDecksAreLoose =
    (ports : CircuitData) (roles : Roles) (pins names : List (List ℕ)) (s : Shape) → IsShape s → AreSmall s → AreDeckPorts ports roles pins names s
    → IsLooseDominoDeck roles (links_of (named_circuit ports (deck_name pins (escaped_outs names)) s) roles)
    (λ a. net_number (named_circuit ports (deck_name pins (escaped_outs names)) s).nets (deck_name pins (escaped_outs names) a)) s
    × AreRoles (ports_of (named_circuit ports (deck_name pins (escaped_outs names)) s)) roles
