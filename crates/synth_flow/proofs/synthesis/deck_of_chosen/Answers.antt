use Rattle.std.proofs.Common.{ap, subst, sym, ◌∙◌}
use Rattle.dual_rail.specs.Forests.{IsForestOf}
use Rattle.phase_assign.specs.Signs.{AreChosen}
use Rattle.deck_form.specs.ChosenDecks.{with_signs}
use Rattle.synth_flow.proofs.synthesis.deck_of_chosen.Goals as goal

pub deck_of_forest-requires-clause-forest : goal.deck_of_forest-requires-clause-forest
deck_of_forest-requires-clause-forest c =
    let chosen = c.requires.chosen in
    (chosen.gates, chosen.are_gates, subst (λ s. IsForestOf chosen.gates s c.args.chosen.forest) (sym c.as_slice.ensures.value) chosen.is_forest)

pub returns : goal.returns
returns c =
    let chosen = c.requires.chosen in
    let same = c.as_slice.ensures.value in
    let made = c.in_ok-circuit.ensures chosen.gates chosen.are_gates
    (subst (λ s. IsForestOf chosen.gates s c.args.chosen.forest) (sym same) chosen.is_forest) in
    let is = made.0 in (
      with_signs is
          (subst (λ s. AreChosen is.gates s) (sym same ∙ sym is.are_chosen.1)
          (subst (λ g. AreChosen g c.args.chosen.signs.items) (sym is.are_chosen.0) chosen.are_chosen)),
      made.1,
      made.2,
    )
