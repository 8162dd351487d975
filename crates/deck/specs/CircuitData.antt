-- Circuits as they are seen in contracts.
use Rattle.std.specs.Prelude.{ℕ, List}
use Rattle.deck.specs.declared.device.Device.{Device}
use Rattle.deck.specs.declared.phase.Phase.{Phase}

-- a circuit as plain data over lists: the first `ports` nets are the ports
pub record CircuitData : Type 0 where
  pub name : List ℕ
  pub phases : List Phase
  pub ports : ℕ
  pub nets : List (List ℕ)
  pub devices : List Device
