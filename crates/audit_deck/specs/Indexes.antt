-- The devices of a circuit by net.
use Rattle.std.specs.Prelude.{List, Some, [], length, slice_get, ℕ, ◌++◌, ◌<◌, ◌∷◌, ◌≡◌, ◌⊎◌}
use Rattle.dom_base.specs.declared.kind.Kind.{Kind}
use Rattle.deck.specs.Nets.{IsInRange}
use Rattle.deck.specs.declared.device.Device.{Device}
use Rattle.link_reduce.specs.Parts.{IsOnce, listed}

pub record IndexData : Type 0 where
  pub devices : List Device
  pub nets : ℕ

-- the device's channel ends at the net
abbrev pub HasEnd : Device → ℕ → Type 0
HasEnd d n = (d.drain ≡ n) ⊎ (d.source ≡ n)

-- a device that ends at the net, or that it gates, stands at the place
abbrev pub EndingAt : List Device → ℕ → ℕ → Type 0
EndingAt ds n p = (d : Device) × (slice_get ds p ≡ Some d) × HasEnd d n

abbrev pub GatedBy : List Device → ℕ → ℕ → Type 0
GatedBy ds n p = (d : Device) × (slice_get ds p ≡ Some d) × (d.gate ≡ n)

-- a list has the numbers with a property, each once
pub record AreThose (P : ℕ → Type 0) (numbers : List ℕ) : Type 0 where
  pub sound : (j p : ℕ) → slice_get numbers j ≡ Some p → P p
  pub full : (p : ℕ) → P p → (j : ℕ) × (slice_get numbers j ≡ Some p)
  pub once : IsOnce numbers

-- each list has the numbers below a bound that have its property
pub record AreListed (P : ℕ → ℕ → Type 0) (nets bound : ℕ) (lists : List (List ℕ)) : Type 0 where
  pub count : length lists ≡ nets
  pub each : (n : ℕ) → n < nets → AreThose (λ p. (p < bound) × P n p) (listed lists n)

-- the nets of each device are among so many
abbrev pub AreInRange : List Device → ℕ → Type 0
AreInRange ds nets = (p : ℕ) (d : Device) → slice_get ds p ≡ Some d → IsInRange nets d

-- each net's lists have the places of its devices
pub record AreIndexed (ds : List Device) (ending gating : List (List ℕ)) : Type 0 where
  pub in_range : AreInRange ds (length ending)
  pub ends : AreListed (EndingAt ds) (length ending) (length ds) ending
  pub gates : AreListed (GatedBy ds) (length ending) (length ds) gating

-- a number is put at the end of the lists with a property
pub record AddsWhere (P : ℕ → Type 0) (number : ℕ) (before after : List (List ℕ)) : Type 0 where
  pub room : length after ≡ length before
  pub here : (n : ℕ) → P n → listed after n ≡ listed before n ++ number ∷ []
  pub away : (n : ℕ) → (P n → ⊥) → listed after n ≡ listed before n

-- a device of the kind stands at the place
abbrev pub HasKind : List Device → Kind → ℕ → Type 0
HasKind ds kind p = (d : Device) × (slice_get ds p ≡ Some d) × (d.kind ≡ kind)

-- the place is that of the one device of the kind that ends at the net
pub record IsOnly (ds : List Device) (n : ℕ) (kind : Kind) (p : ℕ) : Type 0 where
  pub device : Device
  pub there : slice_get ds p ≡ Some device
  pub ends : HasEnd device n
  pub kind_is : device.kind ≡ kind
  pub only : (q : ℕ) (d : Device) → slice_get ds q ≡ Some d → HasEnd d n → d.kind ≡ kind → q ≡ p
