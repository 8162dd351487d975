use Rattle.std.proofs.Common.{◌≡◌, map, take}
use Rattle.deck_form.specs.DeckNets.{complement_net}
use Rattle.synth_flow.proofs.groups.complement_names.Given as goal

abbrev pub invariant-leaves : goal.invariant-leaves
invariant-leaves l = l.names.items ≡ map complement_net (take l.leaf-index l.leaves)
