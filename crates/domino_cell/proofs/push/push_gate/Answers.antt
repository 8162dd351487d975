use Rattle.std.proofs.Common.{◌≡◌, ◌<◌, ap, arith, length, subst, sym, ◌∙◌}
use Rattle.std.proofs.lemmas.Result.{on_ok_weaker}
use Rattle.dom_base.specs.declared.kind.Kind.TheVariants.{N as nch, P as pch}
use Rattle.deck.specs.NamedDevices.{with_devices}
use Rattle.deck.proofs.CircuitGrowth.{Grew-trans}
use Rattle.sp_network.specs.Tree.{EachLeaf, leaves}
use Rattle.sp_network.specs.TypedTree.{tree_of}
use Rattle.domino_cell.specs.NamedTrees.{inner_net, named_tree}
use Rattle.domino_cell.specs.Spelling.{spell}
use Rattle.domino_cell.proofs.PushedGates.{gate_devices_pushed}
use Rattle.domino_cell.proofs.PushedTrees.{EachLeaf-dual, leaves-dual}
use Rattle.domino_cell.proofs.push.push_gate.Goals as goal

pub push_part-requires-clause-gates : goal.push_part-requires-clause-gates
push_part-requires-clause-gates c =
    subst (EachLeaf (λ gate. gate < length c.args.names.now)) (sym c.requires.upper) (EachLeaf-dual (λ gate. gate < length c.args.names.now) (tree_of c.args.tree.now) c.requires.gates)

pub push_part-requires-clause-room : goal.push_part-requires-clause-room
push_part-requires-clause-room c = omega (arith, c.requires.room, ap leaves c.requires.upper, leaves-dual (tree_of c.args.tree.now))

pub push_part-requires-2-clause-room : goal.push_part-requires-2-clause-room
push_part-requires-2-clause-room c =
    omega (arith, c.requires.room, c.in_ok-push_part.ensures.count, ap leaves c.requires.upper, leaves-dual (tree_of c.args.tree.now))

pub push_part-requires-clause-top : goal.push_part-requires-clause-top
push_part-requires-clause-top c = c.named-out.ensures.stands c.args.circuit.now.nets

pub push_part-requires-clause-bottom : goal.push_part-requires-clause-bottom
push_part-requires-clause-bottom c = c.named-vdd.ensures.stands c.args.circuit.now.nets

pub push_part-requires-2-clause-top : goal.push_part-requires-2-clause-top
push_part-requires-2-clause-top c = c.named-out.ensures.stands c.push_part.new.circuit.nets

pub push_part-requires-2-clause-bottom : goal.push_part-requires-2-clause-bottom
push_part-requires-2-clause-bottom c = c.named-vss.ensures.stands c.push_part.new.circuit.nets

pub returns-clause-grew : goal.returns-clause-grew
returns-clause-grew c =
    Grew-trans c.args.circuit.now c.push_part.new.circuit c.push_part-2.new.circuit c.push_part.ensures.grew c.push_part-2.ensures.grew

pub returns-clause-devices : goal.returns-clause-devices
returns-clause-devices c =
    let named = c.requires.named in
    let old = c.args.circuit.now in
    let between = c.push_part.new.circuit in
    let names = c.args.names.now in
    let out = c.named-out.ensures.name in
    let vdd = c.named-vdd.ensures.name ∙ named.vdd in
    let vss = c.named-vss.ensures.name ∙ named.vss in
    let low = named_tree names (tree_of c.args.tree.now) in
    on_ok_weaker c.push_part-2.result
    (λ (two : c.push_part-2.new.circuit
    ≡ with_devices between (spell nch (inner_net c.args.nets.now.lower) low c.named-out.result.name.now c.named-vss.result.name.now 0)).
    gate_devices_pushed old between c.push_part-2.new.circuit c.args.out.now names (tree_of c.args.tree.now)
    (c.in_ok-push_part.ensures.devices
    ∙ (λ i. with_devices old (spell pch (inner_net (named.upper i)) (named_tree names (c.requires.upper i)) (out i) (vdd i) 0)))
    (two ∙ (λ i. with_devices between (spell nch (inner_net (named.lower i)) low (out i) (vss i) 0))))
    c.push_part-2.ensures.devices
