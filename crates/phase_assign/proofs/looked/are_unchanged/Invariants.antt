use Rattle.std.proofs.Common.{ℕ, Bool, ◌<◌, ◌≤◌, take, get_or}
use Rattle.phase_assign.specs.Uses.{times}
use Rattle.phase_assign.proofs.looked.are_unchanged.Given as goal

abbrev pub invariant-loop-pair : goal.invariant-loop-pair
invariant-loop-pair l = (n : ℕ) (s : Bool) → 0 < times n s (take l.pair-index l.pairs) → l.size ≤ get_or l.changed n 0
