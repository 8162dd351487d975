use Rattle.std.proofs.Common.{All, ap, arith, length, subst, sym, ◌∙◌}
use Rattle.deck.specs.CircuitData.{CircuitData}
use Rattle.deck.specs.Nets.{IsInRange}
use Rattle.deck.proofs.DeviceNumbers.{IsCircuit-few, IsCircuit-in_range, IsCircuit-ports}
use Rattle.deck.proofs.PortLayout.{first_output-fits, ports-count}
use Rattle.audit_deck.proofs.audits.audit.Goals as goal

pub overflow_cast-count : goal.overflow_cast-count
overflow_cast-count c =
    let x = c.circuit.inside in
    omega (arith, c.len-count.ensures.len, IsCircuit-few x.ports x.nets.keys x.devices.items c.circuit.invariant)

pub new-requires-clause-in_range : goal.new-requires-clause-in_range
new-requires-clause-in_range c =
    let x = c.circuit.inside in
    subst (λ n. All (IsInRange n) c.as_slice.result.now) (sym c.len-count.ensures.len)
    (subst (All (IsInRange (length x.nets.keys))) (sym c.as_slice.ensures.value) (IsCircuit-in_range x.ports x.nets.keys x.devices.items c.circuit.invariant))

pub first_broken-requires-clause-ports : goal.first_broken-requires-clause-ports
first_broken-requires-clause-ports c = first_output-fits c.args.circuit.now c.args.roles c.device_count-devices.ensures.whole c.requires.roles

pub answer_by_nets-requires-clause-ports : goal.answer_by_nets-requires-clause-ports
answer_by_nets-requires-clause-ports c =
    let d = c.args.circuit.now in
    let whole = c.device_count-devices.ensures.whole in
    let count = c.in_ok-index.ensures.nets ∙ c.len-count.ensures.len ∙ ap (λ (e : CircuitData). length e.nets) c.circuit.view_is in
    omega (arith, ports-count d c.args.roles whole c.requires.roles, IsCircuit-ports d.ports d.nets d.devices whole, count)
