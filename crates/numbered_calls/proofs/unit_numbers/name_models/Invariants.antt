use Rattle.std.proofs.Common.{◌≡◌, length, take}
use Rattle.numbered_calls.specs.Owners.{AreOwners}
use Rattle.numbered_calls.proofs.unit_numbers.name_models.Given as goal

pub record AreOwned (l : goal.Live-loop-index) : Type 0 where
  pub count : length l.owners.items ≡ l.count
  pub owners : AreOwners (take l.index l.models) l.owners.items

abbrev pub invariant-loop-index : goal.invariant-loop-index
invariant-loop-index l = AreOwned l
