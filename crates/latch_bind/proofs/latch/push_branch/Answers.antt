use Rattle.std.proofs.Common.{ap, ◌∙◌}
use Rattle.deck.specs.Pushes.{pushed}
use Rattle.deck.proofs.CircuitGrowth.{Grew-then}
use Rattle.latch_bind.proofs.latch.push_branch.Goals as goal

pub returns-in_err-first-clause-grew : goal.returns-in_err-first-clause-grew
returns-in_err-first-clause-grew c = c.push_at.ensures.grew

pub returns-in_err-second-clause-grew : goal.returns-in_err-second-clause-grew
returns-in_err-second-clause-grew c = Grew-then c.push_at.ensures.grew c.push_at-2.ensures.grew

pub returns-clause-grew : goal.returns-clause-grew
returns-clause-grew c = Grew-then c.push_at.ensures.grew c.push_at-2.ensures.grew

pub returns-clause-devices : goal.returns-clause-devices
returns-clause-devices c =
    let kind = c.args.kind in
    let middle = c.named-middle.ensures.name in
    let middle_again = c.at-middle.ensures.name ∙ middle in
    let first = c.in_ok-first.ensures.ok ∙ ap (pushed c.args.circuit.now kind c.args.out.name.now c.args.clock.name.now) middle in
    c.in_ok-second.ensures.ok ∙ (λ i. pushed (first i) kind (middle_again i) c.args.input.name.now c.args.supply.name.now)
