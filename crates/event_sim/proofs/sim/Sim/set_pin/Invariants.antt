use Rattle.event_sim.proofs.sim.Sim.set_pin.Given as goal

abbrev pub ghosts-set_pin_uncounted : goal.ghosts-set_pin_uncounted
ghosts-set_pin_uncounted g a = record { name = a.blank.name; parts = a.blank.parts }
