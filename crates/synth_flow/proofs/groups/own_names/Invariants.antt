use Rattle.std.proofs.Common.{◌≡◌, map, take}
use Rattle.deck_form.specs.DeckNets.{own_net}
use Rattle.synth_flow.proofs.groups.own_names.Given as goal

abbrev pub invariant-leaves : goal.invariant-leaves
invariant-leaves l = l.names.items ≡ map (own_net l.pins) (take l.leaf-index l.leaves)
