use Rattle.std.proofs.Common.{◌∙◌}
use Rattle.dom_base.specs.declared.kind.Kind.TheVariants.{N as nch, P as pch}
use Rattle.deck.specs.Pushes.{pushed}
use Rattle.deck.proofs.CircuitGrowth.{Grew-trans}
use Rattle.latch_bind.proofs.latch.push_inverter.Goals as goal

pub returns-in_err-push_branch-clause-grew : goal.returns-in_err-push_branch-clause-grew
returns-in_err-push_branch-clause-grew c =
    Grew-trans c.args.circuit.now c.push_branch.new.circuit c.push_branch-2.new.circuit c.push_branch.ensures.grew c.push_branch-2.ensures.grew

pub returns-clause-grew : goal.returns-clause-grew
returns-clause-grew c =
    Grew-trans c.args.circuit.now c.push_branch.new.circuit c.push_branch-2.new.circuit c.push_branch.ensures.grew c.push_branch-2.ensures.grew

pub returns-clause-devices : goal.returns-clause-devices
returns-clause-devices c =
    let stage = c.args.stage.now in
    let input = c.args.input.name.now in
    let clocks = c.args.clocks in
    let out = c.named-out.ensures.name in
    let out_again = c.at-out.ensures.name ∙ out in
    let input_again = c.at-input.ensures.name in
    let first = c.in_ok-number.ensures.devices
    ∙ (λ i. pushed (pushed c.args.circuit.now pch (out i) clocks.opposite.name.now stage.upper) pch stage.upper input (c.vdd_net-vdd.ensures i)) in
    c.in_ok-push_branch.ensures.devices
    ∙ (λ i. pushed (pushed (first i) nch (out_again i) clocks.clock.name.now stage.lower) nch stage.lower (input_again i) (c.vss_net-vss.ensures i))
