use Rattle.trace_tool.proofs.ordered.compared_by.Given as goal

abbrev pub ghosts-compared : goal.ghosts-compared
ghosts-compared a = record { name = a.blank.name; parts = a.blank.parts }
