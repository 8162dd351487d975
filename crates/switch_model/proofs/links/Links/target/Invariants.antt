use Rattle.switch_model.proofs.links.Links.target.Given as goal

abbrev pub ghosts-target_uncounted : goal.ghosts-target_uncounted
ghosts-target_uncounted a = record { name = a.blank.name; parts = a.blank.parts }
