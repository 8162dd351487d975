use Rattle.synth_flow.proofs.synthesis.synth.Goals as goal

pub returns : goal.returns
returns c = c.in_ok-circuit.ensures.0
