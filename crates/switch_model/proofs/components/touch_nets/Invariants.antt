use Rattle.std.proofs.Common.{◌≡◌, ◌<◌, ◌⊎◌, ℕ, length, get_or}
use Rattle.std.specs.Prelude.{◌↔◌, Contains}
use Rattle.switch_model.specs.ComponentLists.{AreRisingTo, list_at}
use Rattle.switch_model.proofs.components.touch_nets.Given as goal

abbrev pub invariant-loop-net : goal.invariant-loop-net
invariant-loop-net l = record {
  long : length l.touched ≡ length l.fn.touched;
  rising : AreRisingTo l.number l.touched;
  so_far : (x k : ℕ) → Contains (list_at l.touched x) k
      ↔ (Contains (list_at l.fn.touched x) k ⊎ ((k ≡ l.number) × ((j : ℕ) × (j < l.net-index) × (get_or l.nets j 0 ≡ x))));
}
