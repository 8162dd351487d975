use Rattle.std.proofs.Common.{get_or, ◌≡◌, Some, [], ap, sym, subst, ◌∙◌}
use Rattle.std.proofs.lemmas.Option.{get_or_from_slice_get, slice_get-get_or}
use Rattle.deck.specs.Nets.{net_name}
use Rattle.deck.specs.Pushes.{pushed}
use Rattle.domino_cell.specs.NetsAt.{AreNumbersAt}
use Rattle.domino_cell.proofs.NetsAt.{AreNumbersAt-grew, AreNumbersAt-set}
use Rattle.domino_cell.proofs.tree.TreeNames.push_leaf.Goals as goal

pub returns-in_err-device-clause-grew : goal.returns-in_err-device-clause-grew
returns-in_err-device-clause-grew c = c.push_held.ensures.grew

pub returns-clause-grew : goal.returns-clause-grew
returns-clause-grew c = c.push_held.ensures.grew

pub returns-clause-devices : goal.returns-clause-devices
returns-clause-devices c =
    let names = c.args.self.now.gates.now in
    let gate = c.args.gate in
    let x = get_or names gate c.index-self-gate.result in
    let found : net_name names gate ≡ x = get_or_from_slice_get names gate x [] (slice_get-get_or names gate c.index-self-gate.result c.requires.gate) in
    c.in_ok-device.ensures.ok ∙ ap (λ n. pushed c.args.circuit.now c.args.kind c.args.top.name.now n c.args.bottom.name.now) (sym found)

pub returns-clause-numbers : goal.returns-clause-numbers
returns-clause-numbers c =
    let old = c.args.circuit.now in
    let new = c.push_held.new.circuit in
    let names = c.args.self.now.gates.now in
    let gate = c.args.gate in
    let x = get_or names gate c.index-self-gate.result in
    let found : net_name names gate ≡ x = get_or_from_slice_get names gate x [] (slice_get-get_or names gate c.index-self-gate.result c.requires.gate) in
    subst (AreNumbersAt new.nets names) (sym c.set_number.ensures)
    (AreNumbersAt-set new.nets names c.args.numbers.now gate c.in_ok-device.device.gate
    (AreNumbersAt-grew old new names c.args.numbers.now c.push_held.ensures.grew c.requires.numbers)
    (c.in_ok-device.ensures.ends.gate ∙ ap Some (sym found)))
