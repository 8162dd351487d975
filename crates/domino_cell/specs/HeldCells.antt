-- Domino cells that stand in a circuit (Rabaey, Digital Integrated Circuits: dynamic logic).
use Rattle.std.specs.Prelude.{◌≡◌, ◌≢◌, ℕ, ◌<◌, Bool, true, false, ◌⊎◌, List, map, All, Contains}
use Rattle.deck.specs.declared.device.Device.{Device}
use Rattle.deck.specs.NamedDevices.{device_of}
use Rattle.sp_network.specs.Tree.{Tree, inner_count}
use Rattle.domino_cell.specs.Cell.{CellNets, IsStageNet, inverter}
use Rattle.domino_cell.specs.declared.style.Style.{Style}
use Rattle.domino_cell.specs.StyledCells.{styled_stage}

-- the dynamic stage of a cell of this style stands in the circuit, and no device but its own ends at one of its nets
pub record IsDynamicStage (style : Style) (devices : List Device) (is_source : ℕ → Bool) (nets : CellNets ℕ) (tree : Tree ℕ) : Type 0 where
  pub vdd_is : is_source nets.vdd ≡ true
  pub vss_is : is_source nets.vss ≡ true
  pub supplies : nets.vdd ≢ nets.vss
  -- the dynamic net, the foot net and the inner nets are no sources, and no two of them are one
  pub free : (n : ℕ) → IsStageNet nets tree n → is_source n ≡ false
  pub foot_apart : nets.dynamic ≢ nets.foot
  pub inner_apart : (j : ℕ) → j < inner_count tree → (nets.inner j ≢ nets.dynamic) × (nets.inner j ≢ nets.foot)
  pub inners_apart : (i j : ℕ) → i < inner_count tree → j < inner_count tree → nets.inner i ≡ nets.inner j → i ≡ j
  -- the stage's devices are there
  pub there : All (λ c. Contains devices (device_of c)) (styled_stage style nets tree)
  -- a device that ends at one of these nets is one of them
  pub alone : (d : Device) (n : ℕ) → Contains devices d → IsStageNet nets tree n → (d.drain ≡ n) ⊎ (d.source ≡ n)
      → Contains (map device_of (styled_stage style nets tree)) d

-- the cell of this style stands in the circuit: its dynamic stage, and the inverter from its dynamic net to its output
pub record IsCell (style : Style) (devices : List Device) (is_source : ℕ → Bool) (nets : CellNets ℕ) (tree : Tree ℕ) : Type 0 where
  pub stage : IsDynamicStage style devices is_source nets tree
  pub inverter_there : All (λ c. Contains devices (device_of c)) (inverter nets.vdd nets.vss nets.dynamic nets.output)
