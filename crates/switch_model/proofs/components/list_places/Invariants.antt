use Rattle.std.proofs.Common.{◌≡◌, ◌<◌, ℕ, length}
use Rattle.std.specs.Prelude.{slice_get}
use Rattle.switch_model.specs.ComponentLists.{is_of, list_at, listed_below}
use Rattle.switch_model.specs.Joins.{top_of}
use Rattle.switch_model.specs.LinksData.{is_first}
use Rattle.switch_model.proofs.components.list_places.Given as goal

abbrev pub invariant-loop-place : goal.invariant-loop-place
invariant-loop-place l = record {
  long : length l.places ≡ length l.parents;
  so_far : (k : ℕ) → k < length l.parents
      → list_at l.places k ≡ listed_below (λ place. is_of (top_of l.parents) (is_first l.sources) k (slice_get l.devices place)) l.place;
}
