use Rattle.std.proofs.Common.{◌≡◌, length, subst, sym}
use Rattle.synth_flow.specs.ChosenForests.{IsChosenForest}
use Rattle.synth_flow.proofs.summaries.summary.Goals as goal

pub figures_of_forest-requires-clause-chosen : goal.figures_of_forest-requires-clause-chosen
figures_of_forest-requires-clause-chosen c =
    let counted = c.in_ok-chosen.field-0 in
    subst (λ signs. (is : IsChosenForest c.args.network.now signs counted.chosen.forest) × (counted.nodes ≡ length is.gates.nodes)) (sym c.as_slice.ensures.value)
    c.in_ok-chosen.ensures
