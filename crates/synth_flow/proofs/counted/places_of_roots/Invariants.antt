use Rattle.std.proofs.Common.{◌≡◌}
use Rattle.tree_map.proofs.RootTrees.{roots_before}
use Rattle.synth_flow.proofs.counted.places_of_roots.Given as goal

abbrev pub invariant-pairs : goal.invariant-pairs
invariant-pairs l = l.places.items ≡ roots_before l.kept l.place
