use Rattle.std.proofs.Common.{ap, refl, ◌∙◌}
use Rattle.std.proofs.lemmas.Result.{on_ok_weaker}
use Rattle.deck.specs.NamedDevices.{with_devices}
use Rattle.deck.proofs.CircuitGrowth.{Grew-same}
use Rattle.sp_network.specs.TypedTree.{tree_of}
use Rattle.domino_cell.specs.NamedTrees.{named_tree}
use Rattle.domino_cell.specs.StyledCells.{styled_stage}
use Rattle.domino_cell.specs.declared.style.Style.TheVariants.{Precharge as WithPrecharge}
use Rattle.compound_cell.proofs.push.push_right_side.Goals as goal

pub push_side-requires-clause-gates : goal.push_side-requires-clause-gates
push_side-requires-clause-gates c = c.requires.gates

pub push_side-requires-clause-room : goal.push_side-requires-clause-room
push_side-requires-clause-room c = c.requires.room

pub returns-in_err-nets-clause-grew : goal.returns-in_err-nets-clause-grew
returns-in_err-nets-clause-grew c = Grew-same refl

pub returns-clause-devices : goal.returns-clause-devices
returns-clause-devices c =
    let tree = named_tree c.args.names.now (tree_of c.args.tree.now) in
    on_ok_weaker c.push_side.result
    (λ made. made ∙ ap (λ nets. with_devices c.args.circuit.now (styled_stage WithPrecharge nets tree)) c.in_ok-nets.ensures)
    c.push_side.ensures.devices

pub returns-clause-count : goal.returns-clause-count
returns-clause-count c = c.push_side.ensures.count

pub returns-clause-grew : goal.returns-clause-grew
returns-clause-grew c = c.push_side.ensures.grew
