use Rattle.deck.proofs.Cuts.{IsCircuit-cut}
use Rattle.deck.proofs.circuit.Circuit.cut.Goals as goal

pub invariant_of-self : goal.invariant_of-self
invariant_of-self c =
    rw (c.truncate-2.ensures.keys, c.count_used-nets.ensures, c.as_slice.ensures.value, c.truncate.ensures.items)
    (IsCircuit-cut c.self.inside.ports c.self.inside.nets.keys c.self.inside.devices.items c.args.devices c.self.invariant)
