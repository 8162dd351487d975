use Rattle.std.proofs.Common.{Some, ap, ◌∙◌}
use Rattle.dom_base.specs.declared.kind.Kind.TheVariants.{N as nch}
use Rattle.deck.specs.Pushes.{pushed}
use Rattle.deck.proofs.CircuitGrowth.{Grew-then}
use Rattle.deck.proofs.NetsAt.{StandsAt-grew}
use Rattle.domino_cell.proofs.inverter.push_inverter.Goals as goal

pub push_held-requires-2-clause-drain : goal.push_held-requires-2-clause-drain
push_held-requires-2-clause-drain c = c.at-out.ensures.stands c.push_held.new.circuit.nets c.in_ok-first.ensures.ends.drain

pub push_held-requires-2-clause-gate : goal.push_held-requires-2-clause-gate
push_held-requires-2-clause-gate c = c.at-gate.ensures.stands c.push_held.new.circuit.nets c.in_ok-first.ensures.ends.gate

pub push_held-requires-2-clause-source : goal.push_held-requires-2-clause-source
push_held-requires-2-clause-source c =
    let net = c.args.vss in
    StandsAt-grew c.args.circuit.now c.push_held.new.circuit net.number net.name.now c.push_held.ensures.grew c.requires.vss

pub returns-in_err-first-clause-grew : goal.returns-in_err-first-clause-grew
returns-in_err-first-clause-grew c = c.push_held.ensures.grew

pub returns-in_err-second-clause-grew : goal.returns-in_err-second-clause-grew
returns-in_err-second-clause-grew c = Grew-then c.push_held.ensures.grew c.push_held-2.ensures.grew

pub returns-clause-grew : goal.returns-clause-grew
returns-clause-grew c = Grew-then c.push_held.ensures.grew c.push_held-2.ensures.grew

pub returns-clause-devices : goal.returns-clause-devices
returns-clause-devices c =
    let first = c.in_ok-first.ensures.ok in
    let out = c.at-out.ensures.name in
    let gate = c.at-gate.ensures.name in
    c.in_ok-second.ensures.ok ∙ (λ i. pushed (first i) nch (out i) (gate i) c.args.vss.name.now)

pub returns-clause-stands : goal.returns-clause-stands
returns-clause-stands c = c.in_ok-second.ensures.ends.drain ∙ ap Some c.at-out.ensures.name
