use Rattle.std.proofs.Common.{◌≡◌, ◌<◌, ◌⊎◌, ℕ, length, get_or}
use Rattle.std.specs.Prelude.{◌↔◌, Contains, Some, slice_get}
use Rattle.deck.specs.declared.device.Device.{Device}
use Rattle.switch_model.specs.ComponentLists.{AreRisingTo, list_at}
use Rattle.switch_model.specs.Components.{IsAt}
use Rattle.switch_model.proofs.components.touch_devices.Given as goal

abbrev pub invariant-loop-place : goal.invariant-loop-place
invariant-loop-place l = record {
  long : length l.touched ≡ length l.fn.touched;
  rising : AreRisingTo l.number l.touched;
  so_far : (x k : ℕ) → Contains (list_at l.touched x) k ↔ (Contains (list_at l.fn.touched x) k
      ⊎ ((k ≡ l.number) × ((j : ℕ) × (j < l.place-index) × ((d : Device) × (slice_get l.devices (get_or l.places j 0) ≡ Some d) × IsAt d x))));
}
