use Rattle.std.proofs.Common.{◌≡◌, length}
use Rattle.switch_model.proofs.room.no_classes.Given as goal

abbrev pub invariant-loop : goal.invariant-loop
invariant-loop l = length l.classes.items ≡ l.counter
