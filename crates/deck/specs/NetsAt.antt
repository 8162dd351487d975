-- Nets that stand at the numbers which are held for them.
use Rattle.std.specs.Prelude.{◌≡◌, ℕ, List, Option, Some, IfSome, slice_get}
use Rattle.deck.specs.declared.device.Device.{Device}

-- where a number is held, the net of this name stands at it
abbrev pub StandsAt : List (List ℕ) → Option ℕ → List ℕ → Type 0
StandsAt nets number name = IfSome number (λ i. slice_get nets i ≡ Some name)

-- the nets of these names stand at the ends of the device
pub record HasEnds (nets : List (List ℕ)) (d g s : List ℕ) (device : Device) : Type 0 where
  pub drain : slice_get nets device.drain ≡ Some d
  pub gate : slice_get nets device.gate ≡ Some g
  pub source : slice_get nets device.source ≡ Some s
