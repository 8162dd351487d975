use Rattle.std.proofs.Common.{ap, arith, ◌∙◌}
use Rattle.deck.specs.Cuts.{cut_to}
use Rattle.deck.specs.NamedDevices.{with_devices}
use Rattle.deck.proofs.Cuts.{cut_to-grew}
use Rattle.sp_network.specs.TypedTree.{tree_of}
use Rattle.domino_cell.specs.NamedTrees.{named_tree}
use Rattle.domino_cell.specs.StyledCells.{styled_cell}
use Rattle.domino_cell.proofs.CellCircuits.{Grew-longer}
use Rattle.domino_cell.proofs.PushedCells.{held_nets_are}
use Rattle.domino_cell.proofs.push.push_numbered_domino.Goals as goal

pub cut-requires : goal.cut-requires
cut-requires c = omega (arith, c.device_count-before.ensures.count, Grew-longer c.push_cell.ensures.grew)

pub returns-in-Ok-clause-devices : goal.returns-in-Ok-clause-devices
returns-in-Ok-clause-devices c =
    c.in-Ok.ensures.devices
    ∙ ap (λ nets. with_devices c.args.circuit.now (styled_cell c.args.style nets (named_tree c.args.names.now (tree_of c.args.plan.now.tree)))) (held_nets_are _ _ c.args.nets.now c.requires.named)

pub returns-in-Err-clause-refused : goal.returns-in-Err-clause-refused
returns-in-Err-clause-refused c =
    c.cut.ensures
    ∙ ap (cut_to c.push_cell.new.circuit) c.device_count-before.ensures.count
    ∙ cut_to-grew c.args.circuit.now c.push_cell.new.circuit c.push_cell.ensures.grew c.device_count-before.ensures.whole.all_used
