use Rattle.std.proofs.Common.{ap, arith, length, subst, sym, ◌∙◌}
use Rattle.deck.specs.NamedDevices.{with_devices}
use Rattle.deck.specs.Nets.{net_name}
use Rattle.sp_network.specs.TypedTree.{tree_of}
use Rattle.sp_network.proofs.TreeImages.{inner_count-map_tree}
use Rattle.domino_cell.specs.NamedTrees.{AreInnerNames, named_tree}
use Rattle.domino_cell.proofs.PushedTrees.{inner_count-below, spell_named}
use Rattle.domino_cell.proofs.push.push_part.Goals as goal

pub inner_names-requires-clause-few : goal.inner_names-requires-clause-few
inner_names-requires-clause-few g c = omega (arith, c.requires.room, inner_count-below (tree_of c.args.tree.now))

pub push-requires-clause-inner_few : goal.push-requires-clause-inner_few
push-requires-clause-inner_few g c = omega (arith, c.requires.room, inner_count-below (tree_of c.args.tree.now))

pub returns-clause-devices : goal.returns-clause-devices
returns-clause-devices g c =
    let names = c.args.names.now in
    let tree = tree_of c.args.tree.now in
    let inner = c.deref.result.now in
    let are : AreInnerNames c.args.front.now inner =
    subst (λ front. AreInnerNames front inner) c.as_bytes.ensures.bytes
    (subst (AreInnerNames c.as_bytes.result.now) (sym c.deref.ensures.value) c.in_ok-inner.ensures.names) in
    c.in_ok-push.ensures.devices
    ∙ ap (with_devices c.args.circuit.now) (spell_named c.args.front.now inner (named_tree names tree) g.S.Polarity.KIND _ _
    (omega (arith, ap length c.deref.ensures.value, c.in_ok-inner.ensures.count, inner_count-map_tree (net_name names) tree)) are)
