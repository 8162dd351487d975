-- Components: the nets that devices join, whatever their gates (Bryant, A switch-level model and simulator for MOS digital systems, 1984).
use Rattle.std.specs.Prelude.{◌≡◌, ℕ, Bool, false, List, ◌⊎◌, ◌↔◌, Some, slice_get, Contains}
use Rattle.std.specs.List.{AllByRecursion}
use Rattle.std.specs.List.Sorted.{IsStrictlyIncreasing}
use Rattle.deck.specs.declared.device.Device.{Device}
use Rattle.deck.specs.Paths.{Path}
use Rattle.switch_model.specs.Laws.{EndsAt}

-- devices of the list, whatever their gates, join a to b with no source inside
abbrev pub AreConnected : List Device → (ℕ → Bool) → ℕ → ℕ → Type 0
AreConnected devices is_source a b = (p : List Device) × Path is_source a p b × AllByRecursion (Contains devices) p

-- a net of the component of a net that is no source: the net itself, or one that is no source and that devices join to it
abbrev pub IsNetOf : List Device → (ℕ → Bool) → ℕ → ℕ → Type 0
IsNetOf devices is_source net n = (n ≡ net) ⊎ (AreConnected devices is_source net n × (is_source n ≡ false))

-- a device of the component of a net: it ends at a net of the component
abbrev pub IsDeviceOf : List Device → (ℕ → Bool) → ℕ → Device → Type 0
IsDeviceOf devices is_source net d = Contains devices d × ((n : ℕ) × IsNetOf devices is_source net n × EndsAt d n)

-- a device has the net as gate, drain or source
abbrev pub IsAt : Device → ℕ → Type 0
IsAt d x = (d.gate ≡ x) ⊎ EndsAt d x

-- the net x touches the component of a net: a device of the component has x as gate, drain or source
abbrev pub Touches : List Device → (ℕ → Bool) → ℕ → ℕ → Type 0
Touches devices is_source x net = (d : Device) × IsDeviceOf devices is_source net d × IsAt d x

-- the place of a device of a component that x touches: it ends at a net, no source, whose component x touches
abbrev pub IsTouchedPlace : List Device → (ℕ → Bool) → ℕ → ℕ → Type 0
IsTouchedPlace devices is_source x place =
    (d : Device) × (slice_get devices place ≡ Some d)
    × ((net : ℕ) × (is_source net ≡ false) × EndsAt d net × Touches devices is_source x net)

-- the places, by rising number, of the devices of the components that x touches
pub record AreTouched (devices : List Device) (is_source : ℕ → Bool) (x : ℕ) (places : List ℕ) : Type 0 where
  pub rising : IsStrictlyIncreasing places
  pub exact : (place : ℕ) → Contains places place ↔ IsTouchedPlace devices is_source x place

-- nets that devices join to no others but sources, and the places of the devices that end at them
pub record IsClosedPart (devices : List Device) (is_source : ℕ → Bool) (nets places : List ℕ) : Type 0 where
  pub free : (n : ℕ) → Contains nets n → is_source n ≡ false
  -- each device that ends at one of the nets stands at one of the places
  pub all : (d : Device) (n : ℕ) → Contains devices d → Contains nets n → EndsAt d n
      → (place : ℕ) × Contains places place × (slice_get devices place ≡ Some d)
  -- the ends of the devices at the places are sources or among the nets
  pub within : (d : Device) (place n : ℕ) → Contains places place → slice_get devices place ≡ Some d → EndsAt d n → is_source n ≡ false
      → Contains nets n
