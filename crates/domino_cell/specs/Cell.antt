-- Domino cells: precharge, keeper, pull-down tree, foot and inverter (Rabaey, Digital Integrated Circuits: dynamic logic).
use Rattle.std.specs.Prelude.{◌≡◌, ℕ, ◌<◌, List, [], ◌∷◌, ◌++◌, ◌⊎◌}
use Rattle.dom_base.specs.declared.kind.Kind.TheVariants.{N as nch, P as pch, Keep}
use Rattle.deck.specs.NamedDevices.{NamedDevice}
use Rattle.sp_network.specs.Tree.{Tree, inner_count}
use Rattle.domino_cell.specs.Spelling.{spell}

-- the nets of a domino cell: the supplies, its clock, its dynamic net and its output, the net between
-- its tree and its foot, and the inner nets of its tree
pub record CellNets (Net : Type 0) : Type 0 where
  pub vdd : Net
  pub vss : Net
  pub clock : Net
  pub dynamic : Net
  pub output : Net
  pub foot : Net
  pub inner : ℕ → Net

-- the nets with each taken to its image
abbrev pub map_nets : {Net Image : Type 0} → (Net → Image) → CellNets Net → CellNets Image
map_nets f nets = record {
  vdd = f nets.vdd;
  vss = f nets.vss;
  clock = f nets.clock;
  dynamic = f nets.dynamic;
  output = f nets.output;
  foot = f nets.foot;
  inner = λ j. f (nets.inner j);
}

-- the inverter from the net gate to the net out
abbrev pub inverter : {Net : Type 0} → Net → Net → Net → Net → List (NamedDevice Net)
inverter vdd vss gate out =
    record { kind = pch; drain = out; gate = gate; source = vdd }
    ∷ record { kind = nch; drain = out; gate = gate; source = vss }
    ∷ []

-- the precharge, the keeper, the tree and the foot of a domino cell
abbrev pub dynamic_stage : {Net : Type 0} → CellNets Net → Tree Net → List (NamedDevice Net)
dynamic_stage nets tree =
    record { kind = pch; drain = nets.dynamic; gate = nets.clock; source = nets.vdd }
    ∷ record { kind = Keep; drain = nets.dynamic; gate = nets.output; source = nets.vdd }
    ∷ (spell nch nets.inner tree nets.dynamic nets.foot 0
    ++ record { kind = nch; drain = nets.foot; gate = nets.clock; source = nets.vss }
    ∷ [])

-- a domino cell: the dynamic stage, and the inverter from the dynamic net to the output
abbrev pub cell : {Net : Type 0} → CellNets Net → Tree Net → List (NamedDevice Net)
cell nets tree = dynamic_stage nets tree ++ inverter nets.vdd nets.vss nets.dynamic nets.output

-- n is the dynamic net, the foot net or an inner net of the tree
abbrev pub IsStageNet : {Net : Type 0} → CellNets Net → Tree Net → Net → Type 0
IsStageNet nets tree n = (n ≡ nets.dynamic) ⊎ ((n ≡ nets.foot) ⊎ ((j : ℕ) × (j < inner_count tree) × (n ≡ nets.inner j)))
