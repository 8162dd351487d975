use Rattle.std.proofs.Common.{◌≡◌, ◌≤◌, ◌+◌, ◌*◌, ◌<◌, ℕ, length, get_or, take}
use Rattle.std.specs.List.{sum_by}
use Rattle.std.specs.List.Sorted.{IsStrictlyIncreasing}
use Rattle.std.specs.Prelude.{◌↔◌, Contains}
use Rattle.dom_base.specs.declared.tri.Tri.{Tri}
use Rattle.deck.specs.Switches.{value_of}
use Rattle.switch_model.specs.ComponentLists.{list_at}
use Rattle.switch_model.specs.LinksData.{is_first}
use Rattle.switch_model.specs.Sweeps.{AreRooms}
use Rattle.switch_model.specs.Targets.{IsPending, IsTarget}
use Rattle.switch_model.proofs.refresh.refresh_all.Given as goal

abbrev pub invariant-loop-number : goal.invariant-loop-number
invariant-loop-number g l = record {
  rooms : AreRooms (length l.values) l.rooms;
  whole : l.pending.nets ≡ l.fn.pending.nets;
  rising : IsStrictlyIncreasing l.fn.pending.listed → IsStrictlyIncreasing l.pending.listed;
  here : (n j : ℕ) → j < l.number-index → Contains (list_at l.components.nets (get_or l.numbers j 0)) n
      → Contains l.pending.listed n ↔ ((v : Tri) × IsPending l.wires (is_first l.sources) l.values n v);
  others : (n : ℕ) → ((j : ℕ) → j < l.number-index → Contains (list_at l.components.nets (get_or l.numbers j 0)) n → ⊥)
      → Contains l.pending.listed n ↔ Contains l.fn.pending.listed n;
  targets : (n j : ℕ) → j < l.number-index → Contains (list_at l.components.nets (get_or l.numbers j 0)) n
      → IsTarget l.wires (is_first l.sources) l.values n (value_of l.pending.targets n);
  kept : (n : ℕ) → ((j : ℕ) → j < l.number-index → Contains (list_at l.components.nets (get_or l.numbers j 0)) n → ⊥)
      → value_of l.pending.targets n ≡ value_of l.fn.pending.targets n;
  cost : l.steps ≤ l.fn.steps + 9 * sum_by (λ (k : ℕ). length (list_at l.components.places k)) (take l.number-index l.numbers);
}
