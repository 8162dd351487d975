-- Stages: the branches of devices between a net and the supplies (Bryant, switch-level model: channel-connected groups).
use Rattle.std.specs.Prelude.{◌≡◌, ℕ, ◌+◌, ◌<◌, Bool, true, false, List, [], ◌∷◌, ◌++◌, ◌⊎◌, map, Some, slice_get, All, Contains}
use Rattle.dom_base.specs.declared.kind.Kind.{Kind}
use Rattle.deck.specs.declared.device.Device.{Device}
use Rattle.deck.specs.NamedDevices.{NamedDevice, device_of}
use Rattle.sp_network.specs.Tree.{Tree, inner_count}
use Rattle.domino_cell.specs.Spelling.{spell}

-- a tree of devices of one kind between the top of a stage and a supply
pub record Branch : Type 0 where
  pub kind : Kind
  pub tree : Tree ℕ
  pub supply : ℕ

-- the nets of a stage: its top, and the inner net j of branch i
pub data Spot : Type 0 where
  Top : Spot
  Inside : ℕ → ℕ → Spot

-- the spot is one of a stage with these branches
abbrev pub IsSpot : List Branch → Spot → Type 0
IsSpot bs Top = Unit {0}
IsSpot bs (Inside i j) = (b : Branch) × (slice_get bs i ≡ Some b) × (j < inner_count b.tree)

-- the devices of the branches, numbered from i on, where `at` gives the net of each spot
abbrev pub stage : (Spot → ℕ) → ℕ → List Branch → List (NamedDevice ℕ)
stage at i [] = []
stage at i (b ∷ bs) = spell b.kind (λ j. at (Inside i j)) b.tree (at Top) b.supply 0 ++ stage at (i + 1) bs

-- the stage stands in the circuit, and no other device ends at one of its nets
pub record IsStage (devices : List Device) (is_source : ℕ → Bool) (at : Spot → ℕ) (bs : List Branch) : Type 0 where
  -- different spots have different nets
  pub apart : (a b : Spot) → IsSpot bs a → IsSpot bs b → at a ≡ at b → a ≡ b
  -- which are no sources
  pub free : (a : Spot) → IsSpot bs a → is_source (at a) ≡ false
  -- each branch leads to a source
  pub supplies : All (λ b. is_source b.supply ≡ true) bs
  pub there : All (λ c. Contains devices (device_of c)) (stage at 0 bs)
  pub alone : (d : Device) (a : Spot) → IsSpot bs a → Contains devices d → (d.drain ≡ at a) ⊎ (d.source ≡ at a)
      → Contains (map device_of (stage at 0 bs)) d
