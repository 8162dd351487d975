-- Paths whose devices all have a property, without the list of devices, as in the switch-level model of Bryant.
use Rattle.std.specs.Prelude.{◌≡◌, ℕ, Bool, false}
use Rattle.deck.specs.declared.device.Device.{Device}
use Rattle.deck.specs.Paths.{Ends}

-- devices with Q join the first net to the second, end to end, with no source net inside
pub data Reach (Q : Device → Type 0) (is_source : ℕ → Bool) : ℕ → ℕ → Type 0 where
  last : {d : Device} {a b : ℕ} → Q d → Ends d a b → Reach Q is_source a b
  step : {d : Device} {a m b : ℕ} → Q d → Ends d a m → is_source m ≡ false → Reach Q is_source m b → Reach Q is_source a b
