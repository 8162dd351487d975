use Rattle.switch_model.proofs.links.Links.pending.Given as goal

abbrev pub ghosts-pending_uncounted : goal.ghosts-pending_uncounted
ghosts-pending_uncounted a = record { name = a.blank.name; parts = a.blank.parts }
