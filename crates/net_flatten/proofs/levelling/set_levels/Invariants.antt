use Rattle.std.specs.Prelude.{length}
use Rattle.net_flatten.specs.LevelSteps.{AreLevelsSoFar}
use Rattle.net_flatten.proofs.levelling.set_levels.Given as goal

abbrev pub invariant-loop-index : goal.invariant-loop-index
invariant-loop-index l = AreLevelsSoFar l.nodes l.order l.tables (length l.nodes) l.index l.levels.items
