-- Domino cells and static gates by the names of their nets, and the circuits that have room for them (Rabaey, Digital Integrated
-- Circuits: dynamic logic, static complementary CMOS).
use Rattle.std.specs.Prelude.{◌≡◌, ◌≢◌, ℕ, ◌<◌, false, List, ◌++◌, nat_eq, codes, Contains}
use Rattle.std.specs.Fmt.{decimal}
use Rattle.std.specs.List.{list_any}
use Rattle.std.specs.Cmp.Lexicographic.{pointwise}
use Rattle.dom_base.specs.declared.kind.Kind.TheVariants.{N as nch, P as pch}
use Rattle.deck.specs.CircuitData.{CircuitData}
use Rattle.deck.specs.NamedDevices.{NamedDevice}
use Rattle.deck.specs.Nets.{net_number}
use Rattle.deck.specs.Sources.{is_source}
use Rattle.deck.specs.declared.device.Device.{Device}
use Rattle.sp_network.specs.Tree.{Tree, dual}
use Rattle.domino_cell.specs.Cell.{CellNets}
use Rattle.domino_cell.specs.NamedTrees.{inner_net}
use Rattle.domino_cell.specs.Spelling.{spell}

-- how the inner nets of cell k begin
abbrev pub inner_front : ℕ → List ℕ
inner_front k = codes "t" ++ decimal k ++ codes "_"

-- the nets of cell k on the clock of this number
abbrev pub numbered_cell : ℕ → ℕ → CellNets (List ℕ)
numbered_cell clock k = record {
  vdd = codes "vdd";
  vss = codes "vss";
  clock = codes "ck" ++ decimal clock;
  dynamic = codes "d" ++ decimal k;
  output = codes "z" ++ decimal k;
  foot = codes "f" ++ decimal k;
  inner = inner_net (inner_front k);
}

-- how the inner nets of a static gate begin, towards vdd and towards vss
abbrev pub upper_front : List ℕ → List ℕ
upper_front out = out ++ codes "_p"

abbrev pub lower_front : List ℕ → List ℕ
lower_front out = out ++ codes "_n"

-- a static gate: the dual of its tree from the output to vdd, and the tree from the output to vss
abbrev pub static_gate : List ℕ → Tree (List ℕ) → List (NamedDevice (List ℕ))
static_gate out tree =
    spell pch (inner_net (upper_front out)) (dual tree) out (codes "vdd") 0 ++ spell nch (inner_net (lower_front out)) tree out (codes "vss") 0

-- the net of this name is a port
abbrev pub IsPort : CircuitData → List ℕ → Type 0
IsPort c name = net_number c.nets name < c.ports

-- no net has this name
abbrev pub IsNewNet : CircuitData → List ℕ → Type 0
IsNewNet c name = list_any (pointwise nat_eq name) c.nets ≡ false

-- the supplies and the clock are ports, and the nets of the cell's own are new
pub record HasRoomForCell (c : CircuitData) (nets : CellNets (List ℕ)) : Type 0 where
  pub vdd : IsPort c nets.vdd
  pub vss : IsPort c nets.vss
  pub clock : IsPort c nets.clock
  pub dynamic : IsNewNet c nets.dynamic
  pub output : IsNewNet c nets.output
  pub foot : IsNewNet c nets.foot
  pub inner : (j : ℕ) → IsNewNet c (nets.inner j)

-- the net of this name is no source, and no device ends at it
abbrev pub IsUndriven : CircuitData → List ℕ → Type 0
IsUndriven c name =
    (is_source c (net_number c.nets name) ≡ false)
    × ((d : Device) → Contains c.devices d → (d.drain ≢ net_number c.nets name) × (d.source ≢ net_number c.nets name))

-- the supplies are ports, and nothing drives the output or an inner net
pub record HasRoomForGate (c : CircuitData) (out : List ℕ) : Type 0 where
  pub vdd : IsPort c (codes "vdd")
  pub vss : IsPort c (codes "vss")
  pub output : IsUndriven c out
  pub upper : (j : ℕ) → IsUndriven c (inner_net (upper_front out) j)
  pub lower : (j : ℕ) → IsUndriven c (inner_net (lower_front out) j)
