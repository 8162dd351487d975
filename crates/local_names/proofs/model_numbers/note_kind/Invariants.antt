use Rattle.local_names.proofs.Gathered.{AreGathered}
use Rattle.local_names.proofs.model_numbers.note_kind.Given as goal

abbrev pub invariant-loop-index : goal.invariant-loop-index
invariant-loop-index l = AreGathered l.file l.kind l.first l.end l.index l.fn.kept.items l.kept.items l.place
