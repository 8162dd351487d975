use Rattle.std.proofs.Common.{◌≡◌, ℕ, Bool, List, length}
use Rattle.dual_rail.specs.EndPlaces.{AreEndsSoFar, SinksHavePlaces}
use Rattle.dual_rail.proofs.ends.ends_of.Given as goal

abbrev pub invariant-loop-index : goal.invariant-loop-index
invariant-loop-index l = record {
  count : length l.ends.items ≡ l.index;
  ends : (origin : List (ℕ × Bool)) → SinksHavePlaces l.fn.gates l.signs origin l.places → AreEndsSoFar l.fn.gates l.signs origin l.ends.items;
}
