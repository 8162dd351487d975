use Rattle.std.proofs.Common.{◌≡◌, ◌<◌, ◌⊎◌, ℕ, false, length}
use Rattle.std.specs.Prelude.{Some, slice_get}
use Rattle.deck.specs.declared.device.Device.{Device}
use Rattle.switch_model.specs.Components.{AreConnected}
use Rattle.switch_model.specs.Joins.{AreJoined, IsJoinForest}
use Rattle.switch_model.specs.LinksData.{is_first}
use Rattle.switch_model.proofs.components.join_ends.Given as goal

abbrev pub invariant-loop-device : goal.invariant-loop-device
invariant-loop-device l = record {
  forest : IsJoinForest l.parents.items;
  long : length l.parents.items ≡ length l.fn.parents.items;
  joint : (k : ℕ) (d : Device) → k < l.device-index → slice_get l.devices k ≡ Some d
      → is_first l.sources d.drain ≡ false → is_first l.sources d.source ≡ false → AreJoined l.parents.items d.drain d.source;
  connected : (a b : ℕ) → AreJoined l.parents.items a b → (a ≡ b) ⊎ AreConnected l.devices (is_first l.sources) a b;
}
