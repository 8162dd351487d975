use Rattle.std.proofs.Common.{◌≡◌, ℕ, length}
use Rattle.switch_model.specs.Joins.{IsJoinForest, top_of}
use Rattle.switch_model.proofs.joins.flatten.Given as goal

abbrev pub invariant-loop-net : goal.invariant-loop-net
invariant-loop-net l = record {
  forest : IsJoinForest l.parents.items;
  long : length l.parents.items ≡ length l.fn.parents.items;
  tops : (n : ℕ) → top_of l.parents.items n ≡ top_of l.fn.parents.items n;
}
