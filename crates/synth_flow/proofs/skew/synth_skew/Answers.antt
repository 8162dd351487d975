use Rattle.std.proofs.Common.{subst, sym, ◌∙◌}
use Rattle.dual_rail.specs.Forests.{IsForestOf}
use Rattle.phase_assign.specs.Signs.{AreChosen}
use Rattle.synth_flow.specs.BufferedDecks.{buffered_with_signs}
use Rattle.synth_flow.proofs.skew.synth_skew.Goals as goal

pub buffered_deck_of_forest-requires-clause-forest : goal.buffered_deck_of_forest-requires-clause-forest
buffered_deck_of_forest-requires-clause-forest c =
    let chosen = c.in_ok-signs.ensures in
    (chosen.gates, chosen.are_gates, subst (λ s. IsForestOf chosen.gates s c.in_ok-signs.field-0.forest) (sym c.as_slice.ensures.value) chosen.is_forest)

pub returns : goal.returns
returns c =
    let chosen = c.in_ok-signs.ensures in
    let same = c.as_slice.ensures.value in
    let is = c.in_ok-circuit.ensures chosen.gates chosen.are_gates
    (subst (λ s. IsForestOf chosen.gates s c.in_ok-signs.field-0.forest) (sym same) chosen.is_forest) in
    buffered_with_signs is
    (subst (λ s. AreChosen is.of_signs.gates s) (sym same ∙ sym is.of_signs.are_chosen.1)
    (subst (λ g. AreChosen g c.in_ok-signs.field-0.signs.items) (sym is.of_signs.are_chosen.0) chosen.are_chosen))
