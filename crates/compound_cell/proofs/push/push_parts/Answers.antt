use Rattle.std.proofs.Common.{ap, arith, subst, sym, ◌∙◌}
use Rattle.std.proofs.lemmas.Result.{on_ok_weaker}
use Rattle.deck.specs.NamedDevices.{with_devices}
use Rattle.deck.proofs.CircuitGrowth.{Grew-then, with_devices-append}
use Rattle.sp_network.specs.TypedTree.{tree_of}
use Rattle.domino_cell.specs.NamedTrees.{named_tree}
use Rattle.domino_cell.specs.PushedNames.{HasRoomForGate}
use Rattle.domino_cell.specs.StyledCells.{styled_stage}
use Rattle.domino_cell.specs.declared.style.Style.TheVariants.{Precharge as WithPrecharge}
use Rattle.domino_cell.proofs.PushedCells.{held_nets_are}
use Rattle.compound_cell.specs.PushedCells.{output_name}
use Rattle.compound_cell.proofs.PairCells.{gate_room, left_stage, right_stage}
use Rattle.compound_cell.proofs.PairDevices.{pair_pushed}
use Rattle.compound_cell.proofs.push.push_parts.Goals as goal

pub returns-in_err-push_side-clause-grew : goal.returns-in_err-push_side-clause-grew
returns-in_err-push_side-clause-grew c = c.push_side.ensures.grew

pub returns-in_err-push_right_side-clause-grew : goal.returns-in_err-push_right_side-clause-grew
returns-in_err-push_right_side-clause-grew c = Grew-then c.push_side.ensures.grew c.push_right_side.ensures.grew

pub returns-clause-grew : goal.returns-clause-grew
returns-clause-grew c =
    let both = Grew-then c.push_side.ensures.grew c.push_right_side.ensures.grew in
    Grew-then both c.push_output.ensures.grew

pub push_side-requires-clause-gates : goal.push_side-requires-clause-gates
push_side-requires-clause-gates c = c.requires.left

pub push_side-requires-clause-room : goal.push_side-requires-clause-room
push_side-requires-clause-room c = omega (arith, c.requires.room)

pub push_right_side-requires-clause-gates : goal.push_right_side-requires-clause-gates
push_right_side-requires-clause-gates c = c.requires.right

pub push_right_side-requires-clause-room : goal.push_right_side-requires-clause-room
push_right_side-requires-clause-room c = omega (arith, c.requires.room, c.in_ok-push_side.ensures.count)

pub push_output-requires-clause-out : goal.push_output-requires-clause-out
push_output-requires-clause-out c = c.requires.named.output

pub push_output-requires-clause-nets : goal.push_output-requires-clause-nets
push_output-requires-clause-nets c =
    let old = c.args.circuit.now in
    let l = named_tree c.args.names.now (tree_of c.args.left.now) in
    let r = named_tree c.args.names.now (tree_of c.args.right.now) in
    let one = left_stage c.args.clock c.args.k l r in
    let two = right_stage c.args.clock c.args.k l r in
    let first = c.in_ok-push_side.ensures.devices ∙ ap (λ nets. with_devices old (styled_stage WithPrecharge nets l)) (held_nets_are _ _ c.args.nets.now c.requires.named) in
    let both = c.in_ok-push_right_side.ensures.devices ∙ ap (λ x. with_devices x two) first ∙ sym (with_devices-append old one two) in
    subst (λ x. HasRoomForGate x (output_name c.args.k)) (sym both)
    (gate_room c.args.clock c.args.k l r old c.requires.whole c.requires.nets.0 c.requires.nets.1 c.requires.nets.2)

pub push_output-requires-clause-room : goal.push_output-requires-clause-room
push_output-requires-clause-room c = omega (arith, c.requires.room, c.in_ok-push_side.ensures.count, c.in_ok-push_right_side.ensures.count)

pub returns-clause-devices : goal.returns-clause-devices
returns-clause-devices c =
    let old = c.args.circuit.now in
    let l = named_tree c.args.names.now (tree_of c.args.left.now) in
    let r = named_tree c.args.names.now (tree_of c.args.right.now) in
    on_ok_weaker c.push_output.result
    (pair_pushed c.args.clock c.args.k l r old c.push_side.new.circuit c.push_right_side.new.circuit c.push_output.new.circuit
    (c.in_ok-push_side.ensures.devices ∙ ap (λ nets. with_devices old (styled_stage WithPrecharge nets l)) (held_nets_are _ _ c.args.nets.now c.requires.named))
    c.in_ok-push_right_side.ensures.devices)
    c.push_output.ensures.devices

pub returns-clause-driven : goal.returns-clause-driven
returns-clause-driven c = c.push_output.ensures.driven
