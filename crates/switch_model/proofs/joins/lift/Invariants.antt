use Rattle.std.proofs.Common.{◌≡◌, ◌<◌, ℕ, length}
use Rattle.switch_model.specs.Joins.{IsJoinForest, top_of}
use Rattle.switch_model.proofs.joins.lift.Given as goal

abbrev pub invariant-up : goal.invariant-up
invariant-up l = record {
  forest : IsJoinForest l.parents.items;
  long : length l.parents.items ≡ length l.fn.parents.items;
  tops : (n : ℕ) → top_of l.parents.items n ≡ top_of l.fn.parents.items n;
  within : l.at < length l.parents.items;
  top : top_of l.parents.items l.at ≡ top_of l.parents.items l.net;
}

abbrev pub decreases-up : goal.decreases-up
decreases-up l = l.at
