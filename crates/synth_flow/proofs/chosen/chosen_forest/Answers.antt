use Rattle.synth_flow.proofs.chosen.chosen_forest.Goals as goal

pub returns : goal.returns
returns c = c.in_ok-chosen.ensures.0
