use Rattle.std.proofs.Common.{◌∷◌, ◌<◌, [], ap, arith, refl, subst, sym, ◌∙◌}
use Rattle.deck.specs.CircuitGrowth.{Grew}
use Rattle.deck.specs.NamedDevices.{with_devices}
use Rattle.deck.proofs.CircuitGrowth.{Grew-same, with_devices-grew}
use Rattle.sp_network.specs.Tree.{EachLeaf, leaves}
use Rattle.sp_network.specs.TypedTree.{tree_of}
use Rattle.domino_cell.specs.NamedTrees.{named_tree}
use Rattle.domino_cell.specs.PushedNames.{HasRoomForGate, static_gate}
use Rattle.domino_cell.specs.PushedPaths.{IsDrivenByTree}
use Rattle.compound_cell.specs.PushedCells.{output_name}
use Rattle.compound_cell.proofs.push.push_output.Goals as goal

pub returns-in_err-gate-clause-grew : goal.returns-in_err-gate-clause-grew
returns-in_err-gate-clause-grew c = Grew-same refl

pub returns-in_err-first-clause-grew : goal.returns-in_err-first-clause-grew
returns-in_err-first-clause-grew c = Grew-same refl

pub returns-in_err-second-clause-grew : goal.returns-in_err-second-clause-grew
returns-in_err-second-clause-grew c = Grew-same refl

pub returns-in_err-push_static-clause-grew : goal.returns-in_err-push_static-clause-grew
returns-in_err-push_static-clause-grew c = Grew-same c.in_err-push_static.ensures.refused

pub push_static-requires-clause-nets : goal.push_static-requires-clause-nets
push_static-requires-clause-nets c = subst (HasRoomForGate c.args.circuit.now) (sym c.requires.out) c.requires.nets

pub push_static-requires-clause-gates : goal.push_static-requires-clause-gates
push_static-requires-clause-gates c = subst (EachLeaf (λ gate. gate < 2)) (sym c.in_ok-gate.ensures) (omega arith, omega arith)

pub push_static-requires-clause-room : goal.push_static-requires-clause-room
push_static-requires-clause-room c = omega (arith, c.requires.room, ap leaves c.in_ok-gate.ensures)

pub returns-clause-grew : goal.returns-clause-grew
returns-clause-grew c =
    let old = c.args.circuit.now in
    let cards = static_gate c.args.out.now (named_tree (c.in_ok-first.first ∷ c.in_ok-second.second ∷ []) (tree_of c.in_ok-gate.gate)) in
    subst (Grew old) (sym c.in_ok-push_static.ensures.devices) (with_devices-grew old cards)

pub returns-clause-devices : goal.returns-clause-devices
returns-clause-devices c =
    let out = c.requires.out in
    let d = c.in_ok-first.ensures in
    let e = c.in_ok-second.ensures in
    let gate = c.in_ok-gate.ensures in
    c.in_ok-push_static.ensures.devices ∙ (λ i. with_devices c.args.circuit.now (static_gate (out i) (named_tree (d i ∷ e i ∷ []) (gate i))))

pub returns-clause-driven : goal.returns-clause-driven
returns-clause-driven c =
    let new = c.push_static.new.circuit in
    let d = c.in_ok-first.ensures in
    let e = c.in_ok-second.ensures in
    let gate = c.in_ok-gate.ensures in
    subst (IsDrivenByTree new (output_name c.args.k)) (λ i. named_tree (d i ∷ e i ∷ []) (gate i))
    (subst (λ name. IsDrivenByTree new name (named_tree (c.in_ok-first.first ∷ c.in_ok-second.second ∷ []) (tree_of c.in_ok-gate.gate))) c.requires.out c.in_ok-push_static.ensures.driven)
