use Rattle.std.proofs.Common.{◌≡◌, ◌<◌, ℕ, length}
use Rattle.std.specs.Prelude.{◌↔◌, Contains}
use Rattle.switch_model.specs.ComponentLists.{AreRisingTo, IsTouchedBy, list_at}
use Rattle.switch_model.proofs.components.list_touched.Given as goal

abbrev pub invariant-loop-number : goal.invariant-loop-number
invariant-loop-number l = record {
  long : length l.touched ≡ length l.nets;
  rising : AreRisingTo l.number l.touched;
  so_far : (x k : ℕ) → Contains (list_at l.touched x) k ↔ ((k < l.number) × IsTouchedBy l.devices (list_at l.nets k) (list_at l.places k) x);
}
