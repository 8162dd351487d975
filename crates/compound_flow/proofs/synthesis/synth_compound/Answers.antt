use Rattle.std.proofs.Common.{subst, sym}
use Rattle.dual_rail.specs.Forests.{IsForestOf}
use Rattle.phase_assign.specs.Signs.{AreChosen}
use Rattle.compound_flow.proofs.synthesis.synth_compound.Goals as goal

pub deck_of_forest-requires-clause-forest : goal.deck_of_forest-requires-clause-forest
deck_of_forest-requires-clause-forest c =
    let chosen = c.in_ok-signs.ensures in
    (chosen.gates, chosen.are_gates, subst (λ s. IsForestOf chosen.gates s c.in_ok-signs.field-0.forest) (sym c.as_slice.ensures.value) chosen.is_forest)

pub returns-clause-deck : goal.returns-clause-deck
returns-clause-deck c =
    let chosen = c.in_ok-signs.ensures in
    let same = c.as_slice.ensures.value in
    c.in_ok-circuit.ensures.deck chosen.gates chosen.are_gates (subst (AreChosen chosen.gates) (sym same) chosen.are_chosen)
    (subst (λ s. IsForestOf chosen.gates s c.in_ok-signs.field-0.forest) (sym same) chosen.is_forest)
