use Rattle.event_sim.proofs.sim.Sim.step.Given as goal

abbrev pub ghosts-step_uncounted : goal.ghosts-step_uncounted
ghosts-step_uncounted g a = record { name = a.blank.name; parts = a.blank.parts }
