use Rattle.std.proofs.Common.{◌≡◌, ◌+◌, length, take}
use Rattle.switch_model.specs.Pieces.{RisesUpTo, pieces}
use Rattle.switch_model.proofs.groups.Groups.new.Given as goal

abbrev pub invariant-loop-number : goal.invariant-loop-number
invariant-loop-number l = record {
  long : length l.starts.items ≡ l.number + 1;
  rises : RisesUpTo l.starts.items (length l.numbers.items);
  so_far : pieces l.starts.items l.numbers.items ≡ take l.number l.lists;
}
