use Rattle.std.proofs.Common.{◌≡◌, ◌<◌, ap, arith, length}
use Rattle.std.proofs.lemmas.Result.{on_ok_weaker}
use Rattle.deck.specs.NamedDevices.{with_devices}
use Rattle.deck.specs.Nets.{net_name}
use Rattle.sp_network.specs.Tree.{EachLeaf}
use Rattle.sp_network.specs.TypedTree.{tree_of}
use Rattle.domino_cell.specs.PushedPaths.{HoldsStage, JoinsWhereOne, MayJoinWhereNotZero}
use Rattle.domino_cell.specs.declared.style.Style.TheVariants.{Precharge as WithPrecharge}
use Rattle.compound_plan.specs.CellPlans.{trees_of}
use Rattle.compound_plan.specs.Plans.{cell_cost, compound_costs}
use Rattle.compound_plan.proofs.CompoundCosts.{compound_costs_are}
use Rattle.compound_cell.specs.CompoundCells.{named_cell, whole_tree}
use Rattle.compound_cell.specs.PushedCells.{EachStage, HasRoomForTrees, IsDrivenCell}
use Rattle.compound_cell.proofs.PlanCells.{from_plan, simple_devices, to_plan}
use Rattle.compound_cell.proofs.push.push_compound.Goals as goal

pub push_domino-requires-clause-nets : goal.push_domino-requires-clause-nets
push_domino-requires-clause-nets c = from_plan (λ clock trees. HasRoomForTrees c.args.circuit.now clock c.args.k trees) c.args.plan.now _ c.in-Simple.is c.requires.nets

pub push_domino-requires-clause-gates : goal.push_domino-requires-clause-gates
push_domino-requires-clause-gates c =
    from_plan (λ clock trees. EachLeaf (λ gate. gate < length c.args.names.now) (whole_tree trees)) c.args.plan.now _ c.in-Simple.is c.requires.gates

pub push_domino-requires-clause-room : goal.push_domino-requires-clause-room
push_domino-requires-clause-room c =
    omega (arith, c.requires.room, ap (λ q. cell_cost compound_costs (trees_of q)) c.in-Simple.is, compound_costs_are.0 (tree_of c.in-Simple.simple.tree))

pub push_two_sides-requires-clause-nets : goal.push_two_sides-requires-clause-nets
push_two_sides-requires-clause-nets c = from_plan (λ clock trees. HasRoomForTrees c.args.circuit.now clock c.args.k trees) c.args.plan.now _ c.in-Compound.is c.requires.nets

pub push_two_sides-requires-clause-left : goal.push_two_sides-requires-clause-left
push_two_sides-requires-clause-left c =
    (from_plan (λ clock trees. EachLeaf (λ gate. gate < length c.args.names.now) (whole_tree trees)) c.args.plan.now _ c.in-Compound.is c.requires.gates).0

pub push_two_sides-requires-clause-right : goal.push_two_sides-requires-clause-right
push_two_sides-requires-clause-right c =
    (from_plan (λ clock trees. EachLeaf (λ gate. gate < length c.args.names.now) (whole_tree trees)) c.args.plan.now _ c.in-Compound.is c.requires.gates).1

pub push_two_sides-requires-clause-room : goal.push_two_sides-requires-clause-room
push_two_sides-requires-clause-room c =
    omega (
      arith,
      c.requires.room,
      ap (λ q. cell_cost compound_costs (trees_of q)) c.in-Compound.is,
      compound_costs_are.1 (tree_of c.in-Compound.left) (tree_of c.in-Compound.right),
    )

pub returns-in-Simple-clause-devices : goal.returns-in-Simple-clause-devices
returns-in-Simple-clause-devices c =
    on_ok_weaker c.push_domino.result
    (λ made. to_plan (λ clock trees. c.push_domino.new.circuit ≡ with_devices c.args.circuit.now (named_cell (net_name c.args.names.now) clock c.args.k trees)) c.args.plan.now _ c.in-Simple.is
    (simple_devices c.args.names.now c.in-Simple.simple.clock c.args.k (tree_of c.in-Simple.simple.tree) c.args.circuit.now c.push_domino.new.circuit made))
    c.push_domino.ensures.devices

pub returns-in-Simple-clause-stages : goal.returns-in-Simple-clause-stages
returns-in-Simple-clause-stages c =
    on_ok_weaker c.push_domino.result
    (λ held. to_plan (λ clock trees. EachStage (λ nets tree. HoldsStage WithPrecharge c.push_domino.new.circuit nets tree) (net_name c.args.names.now) clock c.args.k trees)
    c.args.plan.now _ c.in-Simple.is held.stage)
    c.push_domino.ensures.holds

pub returns-in-Simple-clause-definite : goal.returns-in-Simple-clause-definite
returns-in-Simple-clause-definite c =
    on_ok_weaker c.push_domino.result
    (λ joins. to_plan (λ clock trees. EachStage (λ nets tree. JoinsWhereOne c.push_domino.new.circuit nets.dynamic nets.foot tree) (net_name c.args.names.now) clock c.args.k trees)
    c.args.plan.now _ c.in-Simple.is joins)
    c.push_domino.ensures.definite

pub returns-in-Simple-clause-possible : goal.returns-in-Simple-clause-possible
returns-in-Simple-clause-possible c =
    on_ok_weaker c.push_domino.result
    (λ joins. to_plan (λ clock trees. EachStage (λ nets tree. MayJoinWhereNotZero c.push_domino.new.circuit nets.dynamic nets.foot tree) (net_name c.args.names.now) clock c.args.k trees)
    c.args.plan.now _ c.in-Simple.is joins)
    c.push_domino.ensures.possible

pub returns-in-Simple-clause-driven : goal.returns-in-Simple-clause-driven
returns-in-Simple-clause-driven c =
    on_ok_weaker c.push_domino.result
    (λ held. to_plan (λ clock trees. IsDrivenCell c.push_domino.new.circuit (net_name c.args.names.now) clock c.args.k trees) c.args.plan.now _ c.in-Simple.is held)
    c.push_domino.ensures.holds

pub returns-in-Compound-clause-devices : goal.returns-in-Compound-clause-devices
returns-in-Compound-clause-devices c =
    on_ok_weaker c.push_two_sides.result
    (λ made. to_plan (λ clock trees. c.push_two_sides.new.circuit ≡ with_devices c.args.circuit.now (named_cell (net_name c.args.names.now) clock c.args.k trees)) c.args.plan.now _ c.in-Compound.is made)
    c.push_two_sides.ensures.devices

pub returns-in-Compound-clause-stages : goal.returns-in-Compound-clause-stages
returns-in-Compound-clause-stages c =
    on_ok_weaker c.push_two_sides.result
    (λ held. to_plan (λ clock trees. EachStage (λ nets tree. HoldsStage WithPrecharge c.push_two_sides.new.circuit nets tree) (net_name c.args.names.now) clock c.args.k trees)
    c.args.plan.now _ c.in-Compound.is held)
    c.push_two_sides.ensures.stages

pub returns-in-Compound-clause-definite : goal.returns-in-Compound-clause-definite
returns-in-Compound-clause-definite c =
    on_ok_weaker c.push_two_sides.result
    (λ joins. to_plan (λ clock trees. EachStage (λ nets tree. JoinsWhereOne c.push_two_sides.new.circuit nets.dynamic nets.foot tree) (net_name c.args.names.now) clock c.args.k trees)
    c.args.plan.now _ c.in-Compound.is joins)
    c.push_two_sides.ensures.definite

pub returns-in-Compound-clause-possible : goal.returns-in-Compound-clause-possible
returns-in-Compound-clause-possible c =
    on_ok_weaker c.push_two_sides.result
    (λ joins. to_plan (λ clock trees. EachStage (λ nets tree. MayJoinWhereNotZero c.push_two_sides.new.circuit nets.dynamic nets.foot tree) (net_name c.args.names.now) clock c.args.k trees)
    c.args.plan.now _ c.in-Compound.is joins)
    c.push_two_sides.ensures.possible

pub returns-in-Compound-clause-driven : goal.returns-in-Compound-clause-driven
returns-in-Compound-clause-driven c =
    on_ok_weaker c.push_two_sides.result
    (λ driven. to_plan (λ clock trees. IsDrivenCell c.push_two_sides.new.circuit (net_name c.args.names.now) clock c.args.k trees) c.args.plan.now _ c.in-Compound.is driven)
    c.push_two_sides.ensures.driven
