use Rattle.std.proofs.Common.{◌≡◌, ℕ, Bool, length}
use Rattle.gate_decompose.specs.NeededPass.{pass}
use Rattle.dual_rail.specs.WantedNodes.{holds}
use Rattle.dual_rail.proofs.wanted.mark_nodes.Given as goal

abbrev pub invariant-loop-index : goal.invariant-loop-index
invariant-loop-index l = (n : ℕ) (s : Bool) → pass l.nodes (holds l.wanted) l.index n s ≡ pass l.nodes (holds l.initial.wanted) (length l.nodes) n s
