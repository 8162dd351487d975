use Rattle.std.proofs.Common.{sym, ◌∙◌}
use Rattle.deck_form.specs.ChosenDecks.{with_signs}
use Rattle.deck_form.proofs.DeckForms.{sinks_of_network}
use Rattle.synth_flow.proofs.synthesis.synth_signs.Goals as goal

pub rails-requires : goal.rails-requires
rails-requires c = c.requires.one_each ∙ sym (sinks_of_network c.args.network.now c.in_ok-gates.gates c.in_ok-gates.ensures)

pub deck_of_forest-requires-clause-forest : goal.deck_of_forest-requires-clause-forest
deck_of_forest-requires-clause-forest c = (c.in_ok-gates.gates, c.in_ok-gates.ensures, c.in_ok-forest.ensures)

pub returns : goal.returns
returns c =
    let is = (c.in_ok-circuit.ensures c.in_ok-gates.gates c.in_ok-gates.ensures c.in_ok-forest.ensures).0 in
    with_signs is is.are_chosen.1
