use Rattle.std.proofs.Common.{[], ◌<◌, ◌∷◌, ◌∙◌, ap, arith, subst, sym}
use Rattle.deck.specs.NamedDevices.{with_devices}
use Rattle.sp_network.specs.Tree.{EachLeaf, leaves}
use Rattle.domino_cell.specs.NamedTrees.{named_tree}
use Rattle.domino_cell.specs.PushedNames.{static_gate}
use Rattle.compound_flow.proofs.sinks.push_both.Goals as goal

pub push_static-requires-clause-gates : goal.push_static-requires-clause-gates
push_static-requires-clause-gates c = subst (EachLeaf (λ gate. gate < 2)) (sym c.in_ok-gate.ensures) (omega arith, omega arith)

pub push_static-requires-clause-room : goal.push_static-requires-clause-room
push_static-requires-clause-room c = omega (arith, c.requires.room, ap leaves c.in_ok-gate.ensures)

pub returns : goal.returns
returns c =
    let d = c.in_ok-first.ensures in
    let e = c.in_ok-second.ensures in
    let gate = c.in_ok-gate.ensures in
    c.in_ok-push_static.ensures.devices ∙ (λ i. with_devices c.args.circuit.now (static_gate c.args.out.now (named_tree (d i ∷ e i ∷ []) (gate i))))
