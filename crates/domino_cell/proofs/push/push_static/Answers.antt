use Rattle.std.proofs.Common.{◌≤◌, ◌^◌, arith}
use Rattle.std.proofs.lemmas.Result.{on_ok_weaker}
use Rattle.sp_network.specs.Tree.{leaves}
use Rattle.sp_network.specs.TypedTree.{tree_of}
use Rattle.domino_cell.proofs.PushedGates.{IsDrivenByTree-gate}
use Rattle.domino_cell.proofs.push.push_static.Goals as goal

pub returns-clause-devices : goal.returns-clause-devices
returns-clause-devices c = c.push_whole_gate.ensures.devices

pub returns-clause-driven : goal.returns-clause-driven
returns-clause-driven c =
    let few : leaves (tree_of c.args.tree.now) ≤ 2 ^ 24 = omega (arith, c.requires.room) in
    on_ok_weaker c.push_whole_gate.result
    (λ made. IsDrivenByTree-gate c.args.circuit.now c.push_whole_gate.new.circuit c.args.out.now c.args.names.now (tree_of c.args.tree.now)
    c.push_whole_gate.ensures.whole c.requires.nets few made)
    c.push_whole_gate.ensures.devices

pub returns-clause-refused : goal.returns-clause-refused
returns-clause-refused c = c.push_whole_gate.ensures.refused
