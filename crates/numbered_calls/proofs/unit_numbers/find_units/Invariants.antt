use Rattle.std.proofs.Common.{◌≡◌, length}
use Rattle.numbered_calls.proofs.Owned.{HaveUnits}
use Rattle.numbered_calls.proofs.unit_numbers.find_units.Given as goal

pub record AreFound (l : goal.Live-loop-index) : Type 0 where
  pub count : length l.units.items ≡ l.index
  pub have : HaveUnits l.file l.units.items

abbrev pub invariant-loop-index : goal.invariant-loop-index
invariant-loop-index l = AreFound l
