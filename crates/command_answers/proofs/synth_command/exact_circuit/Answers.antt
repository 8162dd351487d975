use Rattle.std.proofs.Common.{◌∙◌, subst, sym}
use Rattle.network.specs.Networks.{IsNetwork}
use Rattle.gate_decompose.proofs.NetworkOrder.{networks_are_ordered}
use Rattle.exact_phase.specs.ExactSigns.{IsExact}
use Rattle.deck_form.specs.ChosenDecks.{with_signs}
use Rattle.plan_law.proofs.OneGates.{gates_one}
use Rattle.command_answers.proofs.synth_command.exact_circuit.Goals as goal

pub returns-clause-circuit : goal.returns-clause-circuit
returns-clause-circuit c =
    let network = c.args.network.now in
    let order = networks_are_ordered network (subst IsNetwork c.network.view_is c.network.invariant) in
    let is = c.in_ok-circuit.ensures in
    let gates = gates_one network order c.in_ok-gates.gates is.gates c.in_ok-gates.ensures is.are_gates in
    let signs = sym (is.are_chosen ∙ c.as_slice.ensures.value) in
    let pairs = c.in_ok-exact.exact.pairs in
    with_signs is (pairs, subst (λ g. IsExact g is.signs pairs) gates (subst (λ s. IsExact c.in_ok-gates.gates s pairs) signs c.in_ok-exact.ensures))
