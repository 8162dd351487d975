-- Stages with taps: single devices that join a spot of a stage to a source (Bryant, switch-level model: channel-connected groups).
use Rattle.std.specs.Prelude.{All, Bool, Contains, List, false, map, true, ℕ, ◌++◌, ◌≡◌, ◌⊎◌}
use Rattle.dom_base.specs.declared.kind.Kind.{Kind}
use Rattle.deck.specs.declared.device.Device.{Device}
use Rattle.deck.specs.NamedDevices.{NamedDevice, device_of}
use Rattle.sp_network.specs.Tree.{Leaf}
use Rattle.domino_cell.specs.Stage.{Branch, IsSpot, Spot, stage}

-- a device between a spot of a stage and a source
pub record Tap : Type 0 where
  pub spot : Spot
  pub kind : Kind
  pub gate : ℕ
  pub supply : ℕ

-- its card, where `at` gives the net of each spot
abbrev pub tap_card : (Spot → ℕ) → Tap → NamedDevice ℕ
tap_card at t = record { kind = t.kind; drain = at t.spot; gate = t.gate; source = t.supply }

-- the branch of one device that does what the tap does
abbrev pub tap_branch : Tap → Branch
tap_branch t = record { kind = t.kind; tree = Leaf t.gate; supply = t.supply }

-- the cards of a stage with its taps
abbrev pub tapped : (Spot → ℕ) → List Branch → List Tap → List (NamedDevice ℕ)
tapped at bs taps = stage at 0 bs ++ map (tap_card at) taps

-- the ways out of the stage: its branches, and its taps as branches
abbrev pub ways : List Branch → List Tap → List Branch
ways bs taps = bs ++ map tap_branch taps

-- the stage and its taps stand in the circuit, and no other device ends at one of its nets
pub record IsTapped (devices : List Device) (is_source : ℕ → Bool) (at : Spot → ℕ) (bs : List Branch) (taps : List Tap) : Type 0 where
  -- different spots have different nets
  pub apart : (a b : Spot) → IsSpot bs a → IsSpot bs b → at a ≡ at b → a ≡ b
  -- which are no sources
  pub free : (a : Spot) → IsSpot bs a → is_source (at a) ≡ false
  -- each tap is at a spot
  pub spots : All (λ t. IsSpot bs t.spot) taps
  -- each way leads to a source
  pub supplies : All (λ b. is_source b.supply ≡ true) (ways bs taps)
  pub there : All (λ c. Contains devices (device_of c)) (tapped at bs taps)
  pub alone : (d : Device) (a : Spot) → IsSpot bs a → Contains devices d → (d.drain ≡ at a) ⊎ (d.source ≡ at a)
      → Contains (map device_of (tapped at bs taps)) d
