use Rattle.std.proofs.Common.{◌≡◌, ◌+◌, ℕ, Bool, take}
use Rattle.phase_assign.specs.Uses.{times, used}
use Rattle.phase_assign.proofs.needed.add_uses.Given as goal

abbrev pub invariant-loop-pair : goal.invariant-loop-pair
invariant-loop-pair l = (n : ℕ) (s : Bool) → used l.uses n s ≡ used l.initial.uses n s + times n s (take l.pair-index l.pairs)
