use Rattle.std.proofs.Common.{◌≡◌, ◌||◌, ℕ, Bool, take}
use Rattle.gate_decompose.specs.NeededPass.{is_asked_by_sinks}
use Rattle.dual_rail.specs.WantedNodes.{holds}
use Rattle.dual_rail.proofs.wanted.mark_sinks.Given as goal

abbrev pub invariant-loop-place : goal.invariant-loop-place
invariant-loop-place l = (n : ℕ) (s : Bool) → holds l.wanted n s ≡ (holds l.initial.wanted n s || is_asked_by_sinks (take l.place l.sinks) (take l.place l.signs) n s)
