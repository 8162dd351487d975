use Rattle.local_names.proofs.Weights.{AreWeighed}
use Rattle.local_names.proofs.sizes.weigh_parts.Given as goal

abbrev pub invariant-loop-place : goal.invariant-loop-place
invariant-loop-place l = AreWeighed l.file l.limit l.first l.end l.place l.total
