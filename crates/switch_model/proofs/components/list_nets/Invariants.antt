use Rattle.std.proofs.Common.{◌≡◌, ◌<◌, ℕ, false, length}
use Rattle.std.specs.Prelude.{◌↔◌, Contains}
use Rattle.switch_model.specs.ComponentLists.{list_at}
use Rattle.switch_model.specs.Joins.{top_of}
use Rattle.switch_model.specs.LinksData.{is_first}
use Rattle.switch_model.proofs.components.list_nets.Given as goal

abbrev pub invariant-loop-net : goal.invariant-loop-net
invariant-loop-net l = record {
  long : length l.nets ≡ length l.parents;
  so_far : (k n : ℕ) → Contains (list_at l.nets k) n ↔ ((n < l.net) × (n < length l.parents) × (is_first l.sources n ≡ false) × (top_of l.parents n ≡ k));
}
