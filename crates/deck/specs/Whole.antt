-- What holds of every circuit.
use Rattle.deck.specs.CircuitData.{CircuitData}
use Rattle.deck.specs.DeckText.{HasNetNames}
use Rattle.deck.specs.Nets.{IsCircuit}

-- the nets are numbered in order of first appearance, and the names are names of nets
pub record IsWhole (c : CircuitData) : Type 0 where
  pub numbered : IsCircuit c.ports c.nets c.devices
  pub names : HasNetNames c
