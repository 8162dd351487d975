use Rattle.std.proofs.Common.{◌≡◌, ◌≢◌, ◌<◌, ℕ, get_or}
use Rattle.std.specs.Prelude.{◌↔◌, Contains}
use Rattle.std.specs.List.Sorted.{IsStrictlyIncreasing}
use Rattle.deck.specs.Switches.{value_of}
use Rattle.switch_model.specs.Sweeps.{target_in}
use Rattle.switch_model.proofs.refresh.refresh_nets.Given as goal

abbrev pub invariant-loop-net : goal.invariant-loop-net
invariant-loop-net g l = record {
  whole : l.pending.nets ≡ l.fn.pending.nets;
  rising : IsStrictlyIncreasing l.fn.pending.listed → IsStrictlyIncreasing l.pending.listed;
  here : (m k : ℕ) → k < l.net-index → get_or l.nets k 0 ≡ m → Contains l.pending.listed m ↔ (target_in l.plain l.rooms m ≢ value_of l.values m);
  targets : (m k : ℕ) → k < l.net-index → get_or l.nets k 0 ≡ m → value_of l.pending.targets m ≡ target_in l.plain l.rooms m;
  kept : (m : ℕ) → ((k : ℕ) → k < l.net-index → get_or l.nets k 0 ≡ m → ⊥) → value_of l.pending.targets m ≡ value_of l.fn.pending.targets m;
  others : (m : ℕ) → ((k : ℕ) → k < l.net-index → get_or l.nets k 0 ≡ m → ⊥) → Contains l.pending.listed m ↔ Contains l.fn.pending.listed m;
}
