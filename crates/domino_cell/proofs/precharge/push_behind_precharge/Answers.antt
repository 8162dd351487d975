use Rattle.std.proofs.Common.{ap, arith, length, subst}
use Rattle.deck.specs.CircuitData.{CircuitData}
use Rattle.deck.specs.NetsAt.{StandsAt}
use Rattle.deck.proofs.NetsAt.{StandsAt-grew}
use Rattle.domino_cell.specs.HeldNames.{held_nets}
use Rattle.domino_cell.specs.StyledCells.{behind_count, inner_precharges}
use Rattle.domino_cell.proofs.CellCircuits.{count_with}
use Rattle.domino_cell.proofs.StyledCells.{length-inner}
use Rattle.domino_cell.proofs.precharge.push_behind_precharge.Goals as goal

pub returns-in_ok-push_inner_precharges-in-Precharge-clause-count :
    goal.returns-in_ok-push_inner_precharges-in-Precharge-clause-count
returns-in_ok-push_inner_precharges-in-Precharge-clause-count c =
    let nets = held_nets c.args.nets.now in
    let n = length c.args.inner.now in
    let many = ap (λ (d : CircuitData). length d.devices) c.in_ok-push_inner_precharges-in-Precharge.ensures.devices in
    let style = ap (λ s. behind_count s n) c.in-Precharge.is in
    omega (arith, many, count_with c.args.circuit.now (inner_precharges nets 0 n), length-inner nets 0 n, style)

pub returns-in_ok-push_inner_precharges-in-Precharge-clause-output :
    goal.returns-in_ok-push_inner_precharges-in-Precharge-clause-output
returns-in_ok-push_inner_precharges-in-Precharge-clause-output c =
    let new = c.push_inner_precharges.new.circuit in
    let net = c.args.cell.output in
    subst (StandsAt new.nets net.number) c.requires.named.output
    (StandsAt-grew c.args.circuit.now new net.number net.name.now c.push_inner_precharges.ensures.grew c.requires.stand.output)
