use Rattle.std.proofs.Common.{◌≡◌, ℕ, length}
use Rattle.switch_model.specs.Joins.{above}
use Rattle.switch_model.proofs.components.alone.Given as goal

abbrev pub invariant-loop-net : goal.invariant-loop-net
invariant-loop-net l = record {
  long : length l.parents.items ≡ l.net;
  alone : (n : ℕ) → above l.parents.items n ≡ n;
}
