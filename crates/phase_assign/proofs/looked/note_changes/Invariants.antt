use Rattle.std.proofs.Common.{ℕ, Bool, ◌≡◌, ◌⊎◌, take, get_or}
use Rattle.phase_assign.specs.Uses.{times}
use Rattle.phase_assign.proofs.looked.note_changes.Given as goal

abbrev pub invariant-loop-pair : goal.invariant-loop-pair
invariant-loop-pair l = (n : ℕ) → (get_or l.changed n 0 ≡ l.size) ⊎ ((get_or l.changed n 0 ≡ get_or l.initial.changed n 0) × ((s : Bool) → times n s (take l.pair-index l.pairs) ≡ 0))
