use Rattle.std.proofs.Common.{Some, ap, arith, subst, sym, ◌∙◌}
use Rattle.deck.specs.CircuitData.{CircuitData}
use Rattle.deck.specs.NetsAt.{StandsAt}
use Rattle.deck.proofs.DeviceNumbers.{IsCircuit-few}
use Rattle.deck.proofs.NetsAt.{slice_get-position}
use Rattle.deck.proofs.net_at.NetAt.found.Goals as goal

pub overflow_cast-number : goal.overflow_cast-number
overflow_cast-number c =
    omega (arith, c.in-Some.ensures.within, IsCircuit-few c.circuit.inside.ports c.circuit.inside.nets.keys c.circuit.inside.devices.items c.circuit.invariant)

pub returns-in-Some-clause-stands : goal.returns-in-Some-clause-stands
returns-in-Some-clause-stands c =
    let at = slice_get-position c.circuit.inside.nets.keys c.args.name.now c.in-Some.number (sym c.in-Some.ensures.index) in
    subst (λ (v : CircuitData). StandsAt v.nets c.at.result.number c.at.result.name.now) c.circuit.view_is
    (c.at.ensures.stands c.circuit.inside.nets.keys (at ∙ ap Some (sym c.named-net.ensures.name)))
