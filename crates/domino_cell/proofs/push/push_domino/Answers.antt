use Rattle.std.proofs.Common.{◌≤◌, ◌^◌, arith}
use Rattle.std.proofs.lemmas.Result.{on_ok_weaker}
use Rattle.sp_network.specs.Tree.{leaves}
use Rattle.sp_network.specs.TypedTree.{tree_of}
use Rattle.domino_cell.specs.NamedTrees.{named_tree}
use Rattle.domino_cell.specs.PushedNames.{numbered_cell}
use Rattle.domino_cell.proofs.PushedCells.{HoldsCell-numbered, JoinsWhereOne-stage, MayJoinWhereNotZero-stage}
use Rattle.domino_cell.proofs.push.push_domino.Goals as goal

pub returns-clause-holds : goal.returns-clause-holds
returns-clause-holds c =
    let few : leaves (tree_of c.args.plan.now.tree) ≤ 2 ^ 24 = omega (arith, c.requires.room) in
    on_ok_weaker c.push_numbered_domino.result
    (λ made. HoldsCell-numbered c.args.style c.args.circuit.now c.push_numbered_domino.new.circuit c.args.plan.now.clock c.args.k c.args.names.now (tree_of c.args.plan.now.tree)
    c.push_numbered_domino.ensures.whole c.requires.nets few made)
    c.push_numbered_domino.ensures.devices

pub returns-clause-definite : goal.returns-clause-definite
returns-clause-definite c =
    let few : leaves (tree_of c.args.plan.now.tree) ≤ 2 ^ 24 = omega (arith, c.requires.room) in
    on_ok_weaker c.push_numbered_domino.result
    (λ made. JoinsWhereOne-stage c.args.style c.push_numbered_domino.new.circuit (numbered_cell c.args.plan.now.clock c.args.k) (named_tree c.args.names.now (tree_of c.args.plan.now.tree))
    (HoldsCell-numbered c.args.style c.args.circuit.now c.push_numbered_domino.new.circuit c.args.plan.now.clock c.args.k c.args.names.now (tree_of c.args.plan.now.tree)
    c.push_numbered_domino.ensures.whole c.requires.nets few made).stage)
    c.push_numbered_domino.ensures.devices

pub returns-clause-possible : goal.returns-clause-possible
returns-clause-possible c =
    let few : leaves (tree_of c.args.plan.now.tree) ≤ 2 ^ 24 = omega (arith, c.requires.room) in
    on_ok_weaker c.push_numbered_domino.result
    (λ made. MayJoinWhereNotZero-stage c.args.style c.push_numbered_domino.new.circuit (numbered_cell c.args.plan.now.clock c.args.k) (named_tree c.args.names.now (tree_of c.args.plan.now.tree))
    (HoldsCell-numbered c.args.style c.args.circuit.now c.push_numbered_domino.new.circuit c.args.plan.now.clock c.args.k c.args.names.now (tree_of c.args.plan.now.tree)
    c.push_numbered_domino.ensures.whole c.requires.nets few made).stage)
    c.push_numbered_domino.ensures.devices
