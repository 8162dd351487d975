use Rattle.std.proofs.Common.{◌≡◌, ◌≤◌, ◌++◌, length, reverse}
use Rattle.switch_model.specs.Chains.{chain}
use Rattle.switch_model.proofs.lists.put_back.Given as goal

abbrev pub invariant-back : goal.invariant-back
invariant-back l = record {
  within : l.left ≤ length l.entries;
  so_far : l.numbers.items ++ reverse (chain l.entries l.left l.left) ≡ l.fn.numbers.items ++ reverse (chain l.entries l.end l.end);
}

abbrev pub decreases-back : goal.decreases-back
decreases-back l = l.left
