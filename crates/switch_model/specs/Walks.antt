-- Walks over the devices at some places.
use Rattle.std.specs.Prelude.{◌≡◌, ◌≢◌, ◌⊎◌, ◌↔◌, ℕ, Bool, true, false, List, [], ◌∷◌, Some, slice_get, Contains}
use Rattle.dom_base.specs.Conduction.{conduction}
use Rattle.dom_base.specs.declared.kind.Kind.TheVariants.{Keep}
use Rattle.dom_base.specs.declared.tri.Tri.{Tri}
use Rattle.dom_base.specs.declared.tri.Tri.TheVariants.{Zero, One}
use Rattle.deck.specs.declared.device.Device.{Device}
use Rattle.deck.specs.Switches.{value_of}
use Rattle.deck.specs.Paths.{Ends}
use Rattle.switch_model.specs.Joins.{top_of}
use Rattle.switch_model.specs.declared.sort.Sort.{Sort}

-- a device that is on, or that is not off
abbrev pub Conducts : Bool → Tri → Type 0
Conducts true level = level ≡ One
Conducts false level = level ≢ Zero

-- paths of a sort go through the device
abbrev pub PassesSort : Sort → List Tri → Device → Type 0
PassesSort sort values d = Conducts sort.definite (conduction d.kind (value_of values d.gate)) × (sort.keepers ≡ false → d.kind ≢ Keep)

-- and neither end is a source, so that it joins two nets
abbrev pub IsJoint : (Device → Type 0) → (ℕ → Bool) → Device → Type 0
IsJoint Q is_source d = Q d × (is_source d.drain ≡ false) × (is_source d.source ≡ false)

-- nets that were joined, or that devices join, each used at most once
abbrev pub Linked : (ℕ → ℕ → Type 0) → (Device → Type 0) → (ℕ → Bool) → List Device → ℕ → ℕ → Type 0
Linked R Q is_source [] a b = R a b
Linked R Q is_source (d ∷ ds) a b = Linked R Q is_source ds a b ⊎ (IsJoint Q is_source d
    × ((Linked R Q is_source ds a d.drain × Linked R Q is_source ds d.source b)
    ⊎ (Linked R Q is_source ds a d.source × Linked R Q is_source ds d.drain b)))

-- the devices at some places
abbrev pub AreAt : List Device → List ℕ → List Device → Type 0
AreAt devices places ds = (d : Device) → Contains ds d ↔ ((place : ℕ) × Contains places place × (slice_get devices place ≡ Some d))

-- a source that a device joins to a net below this top
abbrev pub IsLed : List ℕ → (Device → Type 0) → (ℕ → Bool) → List Device → ℕ → ℕ → Type 0
IsLed parents Q is_source ds top s =
    (d : Device) × Contains ds d × Q d × ((m : ℕ) × Ends d m s × (is_source m ≡ false) × (top_of parents m ≡ top)) × (is_source s ≡ true)
