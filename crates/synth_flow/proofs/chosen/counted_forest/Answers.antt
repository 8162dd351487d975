use Rattle.std.proofs.Common.{◌≡◌, length, ap, rules, subst, ◌∙◌}
use Rattle.gate_decompose.specs.GatesData.{GatesData}
use Rattle.gate_decompose.specs.GatesOrder.{AreGates}
use Rattle.gate_decompose.proofs.GatesOrder.{gates_are_ordered}
use Rattle.dual_rail.specs.Forests.{IsForestOf}
use Rattle.phase_assign.proofs.ChosenSigns.{chosen_settled}
use Rattle.synth_flow.proofs.chosen.counted_forest.Goals as goal

pub rails-requires : goal.rails-requires
rails-requires c =
    let gates = c.in_ok-gates.gates in
    let in_place = (subst AreGates c.gates.view_is c.gates.invariant).in_place in
    let settled = chosen_settled gates (gates_are_ordered gates in_place) c.in_ok-signs.signs.items c.in_ok-signs.ensures in
    ap length c.as_slice.ensures.value ∙ settled.one_each

pub returns : goal.returns
returns c =
    let gates = c.in_ok-gates.gates in
    let inside : c.len-nodes.result ≡ length c.gates.inside.nodes.items = search (rules, c.len-nodes.ensures) in (
      record {
        gates = gates;
        are_gates = c.in_ok-gates.ensures;
        are_chosen = c.in_ok-signs.ensures;
        is_forest = subst (λ s. IsForestOf gates s c.in_ok-forest.forest) c.as_slice.ensures.value c.in_ok-forest.ensures;
      },
      inside ∙ ap (λ (g : GatesData). length g.nodes) c.gates.view_is,
    )
