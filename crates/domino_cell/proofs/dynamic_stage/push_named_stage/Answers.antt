use Rattle.std.proofs.Common.{Some, ap, arith, sym, ◌∙◌}
use Rattle.deck.specs.NamedDevices.{with_devices}
use Rattle.deck.specs.Nets.{net_name}
use Rattle.deck.specs.Pushes.{pushed}
use Rattle.deck.proofs.CircuitGrowth.{Grew-then}
use Rattle.deck.proofs.NetsAt.{StandsAt-grew, slice_get-grew}
use Rattle.dom_base.specs.declared.kind.Kind.TheVariants.{N as nch, P as pch}
use Rattle.sp_network.specs.TypedTree.{tree_of}
use Rattle.sp_network.proofs.TreeImages.{inner_count-map_tree}
use Rattle.domino_cell.specs.HeldNames.{held_nets}
use Rattle.domino_cell.specs.NamedTrees.{named_tree}
use Rattle.domino_cell.specs.Spelling.{spell}
use Rattle.domino_cell.specs.StyledCells.{behind_precharge}
use Rattle.domino_cell.proofs.CellCircuits.{stage_devices_pushed}
use Rattle.domino_cell.proofs.NetsAt.{AreNumbersAt-grew, StandInCircuit-grew}
use Rattle.domino_cell.proofs.PushedTrees.{inner_count-below, spell_named}
use Rattle.domino_cell.proofs.dynamic_stage.push_named_stage.Goals as goal

pub push-requires-clause-inner_few : goal.push-requires-clause-inner_few
push-requires-clause-inner_few c = omega (arith, c.requires.room, inner_count-below (tree_of c.args.tree.now))

pub returns-in_err-precharge-clause-grew : goal.returns-in_err-precharge-clause-grew
returns-in_err-precharge-clause-grew c = c.push_held.ensures.grew

pub returns-in_err-held-clause-grew : goal.returns-in_err-held-clause-grew
returns-in_err-held-clause-grew c = Grew-then c.push_held.ensures.grew c.push_behind_precharge.ensures.grew

pub returns-in_err-number-clause-grew : goal.returns-in_err-number-clause-grew
returns-in_err-number-clause-grew c =
    let kept = Grew-then c.push_held.ensures.grew c.push_behind_precharge.ensures.grew in
    Grew-then kept c.push.ensures.grew

pub returns-in_err-push_held-clause-grew : goal.returns-in_err-push_held-clause-grew
returns-in_err-push_held-clause-grew c =
    let kept = Grew-then c.push_held.ensures.grew c.push_behind_precharge.ensures.grew in
    let with_tree = Grew-then kept c.push.ensures.grew in
    Grew-then with_tree c.push_held-2.ensures.grew

pub returns-clause-grew : goal.returns-clause-grew
returns-clause-grew c =
    let kept = Grew-then c.push_held.ensures.grew c.push_behind_precharge.ensures.grew in
    let with_tree = Grew-then kept c.push.ensures.grew in
    Grew-then with_tree c.push_held-2.ensures.grew

pub push_held-requires-clause-drain : goal.push_held-requires-clause-drain
push_held-requires-clause-drain c = c.requires.stand.dynamic

pub push_held-requires-clause-gate : goal.push_held-requires-clause-gate
push_held-requires-clause-gate c = c.requires.stand.clock

pub push_held-requires-clause-source : goal.push_held-requires-clause-source
push_held-requires-clause-source c = c.requires.stand.vdd

pub push_behind_precharge-requires-clause-named : goal.push_behind_precharge-requires-clause-named
push_behind_precharge-requires-clause-named c = c.requires.named

pub push_behind_precharge-requires-clause-stand : goal.push_behind_precharge-requires-clause-stand
push_behind_precharge-requires-clause-stand c =
    StandInCircuit-grew c.args.circuit.now c.push_held.new.circuit c.args.cell c.push_held.ensures.grew c.requires.stand

pub push_behind_precharge-requires-clause-dynamic_is : goal.push_behind_precharge-requires-clause-dynamic_is
push_behind_precharge-requires-clause-dynamic_is c = c.at-dynamic.ensures.name ∙ c.requires.named.dynamic

pub push_behind_precharge-requires-clause-dynamic : goal.push_behind_precharge-requires-clause-dynamic
push_behind_precharge-requires-clause-dynamic c = c.at-dynamic.ensures.stands c.push_held.new.circuit.nets c.in_ok-precharge.ensures.ends.drain

pub push-requires-clause-top : goal.push-requires-clause-top
push-requires-clause-top c =
    c.at-dynamic.ensures.stands c.push_behind_precharge.new.circuit.nets
    (slice_get-grew c.push_held.new.circuit c.push_behind_precharge.new.circuit _ c.args.cell.dynamic.name.now c.push_behind_precharge.ensures.grew c.in_ok-precharge.ensures.ends.drain)

pub push-requires-clause-bottom : goal.push-requires-clause-bottom
push-requires-clause-bottom c =
    let grew = Grew-then c.push_held.ensures.grew c.push_behind_precharge.ensures.grew in
    (StandInCircuit-grew c.args.circuit.now c.push_behind_precharge.new.circuit c.args.cell grew c.requires.stand).foot

pub push-requires-clause-numbers : goal.push-requires-clause-numbers
push-requires-clause-numbers c =
    let grew = Grew-then c.push_held.ensures.grew c.push_behind_precharge.ensures.grew in
    AreNumbersAt-grew c.args.circuit.now c.push_behind_precharge.new.circuit c.args.names.now c.args.numbers.now grew c.requires.numbers

pub push_held-requires-2-clause-drain : goal.push_held-requires-2-clause-drain
push_held-requires-2-clause-drain c = c.at-foot.ensures.stands c.push.new.circuit.nets c.in_ok-number.ensures.stands

pub push_held-requires-2-clause-gate : goal.push_held-requires-2-clause-gate
push_held-requires-2-clause-gate c =
    let kept = Grew-then c.push_held.ensures.grew c.push_behind_precharge.ensures.grew in
    let grew = Grew-then kept c.push.ensures.grew in
    (StandInCircuit-grew c.args.circuit.now c.push.new.circuit c.args.cell grew c.requires.stand).clock

pub push_held-requires-2-clause-source : goal.push_held-requires-2-clause-source
push_held-requires-2-clause-source c =
    let kept = Grew-then c.push_held.ensures.grew c.push_behind_precharge.ensures.grew in
    let grew = Grew-then kept c.push.ensures.grew in
    (StandInCircuit-grew c.args.circuit.now c.push.new.circuit c.args.cell grew c.requires.stand).vss

pub returns-clause-dynamic : goal.returns-clause-dynamic
returns-clause-dynamic c =
    let with_tree = Grew-then c.push_behind_precharge.ensures.grew c.push.ensures.grew in
    let grew = Grew-then with_tree c.push_held-2.ensures.grew in
    slice_get-grew c.push_held.new.circuit c.push_held-2.new.circuit _ c.args.cell.dynamic.name.now grew c.in_ok-precharge.ensures.ends.drain
    ∙ ap Some c.requires.named.dynamic

pub returns-clause-output : goal.returns-clause-output
returns-clause-output c =
    let grew = Grew-then c.push.ensures.grew c.push_held-2.ensures.grew in
    StandsAt-grew c.push_behind_precharge.new.circuit c.push_held-2.new.circuit c.in_ok-held.held c.args.nets.now.output grew c.in_ok-held.ensures.output

pub returns-clause-numbers : goal.returns-clause-numbers
returns-clause-numbers c = AreNumbersAt-grew c.push.new.circuit c.push_held-2.new.circuit c.args.names.now c.push.new.numbers c.push_held-2.ensures.grew c.in_ok-number.ensures.numbers

pub returns-clause-devices : goal.returns-clause-devices
returns-clause-devices c =
    let tree = named_tree c.args.names.now (tree_of c.args.tree.now) in
    let is = c.requires.named in
    let nets = held_nets c.args.nets.now in
    let dynamic = c.at-dynamic.ensures.name ∙ is.dynamic in
    let foot = c.at-foot.ensures.name ∙ is.foot in
    let inner = c.args.inner.now in
    let count = c.requires.inner_count in
    let same = inner_count-map_tree (net_name c.args.names.now) (tree_of c.args.tree.now) in
    stage_devices_pushed c.args.style c.args.circuit.now c.push_held.new.circuit c.push_behind_precharge.new.circuit c.push.new.circuit c.push_held-2.new.circuit nets tree
    (c.in_ok-precharge.ensures.ok ∙ (λ i. pushed c.args.circuit.now pch (is.dynamic i) (is.clock i) (is.vdd i)))
    (c.in_ok-held.ensures.devices ∙ ap (λ n. with_devices c.push_held.new.circuit (behind_precharge c.args.style nets n)) (count ∙ sym same))
    (c.in_ok-number.ensures.devices
    ∙ (λ i. with_devices c.push_behind_precharge.new.circuit (spell nch (net_name inner) tree (dynamic i) (is.foot i) 0))
    ∙ ap (with_devices c.push_behind_precharge.new.circuit) (spell_named c.args.nets.now.front inner tree nch nets.dynamic nets.foot (omega (arith, count, same)) c.requires.inner))
    (c.in_ok-push_held.ensures.ok ∙ (λ i. pushed c.push.new.circuit nch (foot i) (is.clock i) (is.vss i)))
